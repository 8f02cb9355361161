-- `sha256::tail::finish` meets its contract: what is left past the whole blocks, with its padding, fills the front of the buffer. Assumes nothing.
use Rattle.std.proofs.Common.{◌≡◌, ℕ, ◌+◌, ◌*◌, List, ◌++◌, length, drop, replicate, ap, ◌∙◌, ap₂, length-take-le, take_at}
use Rattle.sha256.proofs.Pieces.{finishing}
use Rattle.sha256.specs.Fips180.{padding, Hᴺ, digest}
use Rattle.sha256.proofs.tail.finish.Goals as goal

pub returns : goal.returns
returns c =
    let m : List ℕ = c.args.rest.now in
    let size : length c.fill.new.out ≡ c.end_len-n.result = c.fill.auto.out ∙ length-take-le c.end_len-n.result (replicate 128 0) c.end_len-n.ensures.upper_bound in
    c.digest.ensures
    ∙ ap digest
    (c.absorb-2.ensures
    ∙ ap₂ Hᴺ c.absorb.ensures
    (take_at c.fill.new.out (drop c.end_len-n.result (replicate 128 0)) c.end_len-n.result size
    ∙ c.fill.ensures
    ∙ ap₂ (λ (x : List ℕ) (n : ℕ). x ++ padding (n * 64 + length m)) c.as_chunks.ensures.back c.from.ensures))
    ∙ finishing c.args.s c.args.blocks m
