-- `join::join` meets its contract: refused by the tests, or as what passes them is joined.
use mathlib.Core.Path.{◌≡◌, ap, ◌∙◌}
use Rattle.std.specs.Prelude.{Err}
use Rattle.std.proofs.lemmas.Grind.{common_steps}
use native.Mathlib.Omega.{arith}
use Rattle.join.specs.Join.{numbers_of}
use Rattle.join.proofs.Answers.{refused, passed}
use Rattle.join.proofs.join.Goals as goal

pub returns-in_err-test : goal.returns-in_err-test
returns-in_err-test c =
    let both = refused c.args.wanted c.args.check.now c.args.records.now c.args.out.now c.in_err-test.field-0.0 c.in_err-test.ensures in
    let same : c.from_residual.result ≡ Err c.in_err-test.field-0.0 = grind (arith, common_steps) in
    record { value = ap numbers_of same ∙ both.0; out_after = both.1 }

pub gather_and_rebuild-requires : goal.gather_and_rebuild-requires
gather_and_rebuild-requires c =
    let P = passed c.args.wanted c.args.check.now c.args.records.now c.args.out.now c.in_ok-test.ensures in (P.marked, (P.shaped, (P.number, P.fits)))
