-- A refusal in words.
use Rattle.std.specs.Prelude.{ℕ, List, ◌++◌, codes, decimal}
use Rattle.refusal.specs.declared.Refusal.{Refusal}
use Rattle.refusal.specs.declared.Refusal.TheVariants.{CountsOutOfBounds, TooLong, SeedTooLarge, WrongLength, CheckMark, CheckShape, OtherBlock, FragmentShape, OtherNumber, NoSuchHead, Hash, Fingerprint, TooFew, Fill}

abbrev pub sentence_of : Refusal → List ℕ
sentence_of CountsOutOfBounds = codes "m or n out of bounds"
sentence_of TooLong = codes "block or body too long"
sentence_of SeedTooLarge = codes "seed too large"
sentence_of WrongLength = codes "a lent buffer has another length than stated"
sentence_of CheckMark = codes "no check record of a known version"
sentence_of CheckShape = codes "check record out of bounds or of another length"
sentence_of OtherBlock = codes "check record of another block than wanted"
sentence_of FragmentShape = codes "no fragment record of the check record's shape"
sentence_of (OtherNumber found) = codes "fragment of block " ++ decimal found
sentence_of NoSuchHead = codes "fragment index not below n"
sentence_of Hash = codes "hash differs"
sentence_of Fingerprint = codes "body does not match the fingerprints"
sentence_of (TooFew counts) =
    codes "too few fragments: " ++ (decimal counts.indexes ++ (codes " in " ++ (decimal counts.read ++ codes " records")))
sentence_of (Fill counts) =
    codes "fill not zero: " ++ (decimal counts.indexes ++ (codes " fragments in " ++ (decimal counts.read ++ codes " records")))
