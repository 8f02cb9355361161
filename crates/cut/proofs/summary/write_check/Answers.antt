-- `summary::write_check` meets its contract: the head, the hashes and the fingerprints.
use mathlib.Core.Path.{ap, ◌∙◌}
use mathlib.Core.List.{List}
use Prim.Native.Nat.{ℕ}
use lib.ListN.{length}
use native.Mathlib.Omega.{arith}
use borrow.Rule.Slice.PartMut.{mid_len}
use Rattle.record.specs.Layout.{written_version}
use Rattle.record.specs.Records.{check_head}
use Rattle.record.specs.Put.{put}
use Rattle.record.proofs.ReadBack.{check_head_length}
use Rattle.cut.specs.Cut.{check_of, body_among}
use Rattle.cut.proofs.Records.{hashes_length, three_written, check_written}
use Rattle.code.proofs.Longest.{body_length_fits}
use Rattle.cut.proofs.summary.write_check.Goals as goal

pub overflow_cast-size : goal.overflow_cast-size
overflow_cast-size c = omega (arith, c.body_length-size.ensures, body_length_fits c.args.head.length c.args.head.m c.requires.le_m.2 c.requires.le_m.0)

pub write_hashes-requires : goal.write_hashes-requires
write_hashes-requires c =
    mid_len c.hash_place-hashes.result c.prints_place-prints.result c.write_check_head.new.out (omega (arith, c.write_check_head.auto.out, c.requires.check_value, c.prints_place-prints.ensures))
    ∙ omega (arith, c.prints_place-prints.ensures, c.hash_place-hashes.ensures)

pub returns : goal.returns
returns c seed is =
    let h = c.args.head in
    let bodies : ℕ → List ℕ = body_among c.body_length-size.result c.args.fragments.now in
    let long = check_head_length written_version h.number h.length h.m h.n h.seed in
    three_written (check_head written_version h.number h.length h.m h.n h.seed) c.args.check.now c.write_check_head.new.out c.write_hashes.new.out c.hash_place-hashes.result c.prints_place-prints.result
    (omega (arith, long, c.hash_place-hashes.ensures))
    (ap length c.write_hashes.ensures ∙ hashes_length h.n bodies ∙ omega (arith, c.hash_place-hashes.ensures, c.prints_place-prints.ensures))
    (omega (arith, c.hash_place-hashes.ensures, c.prints_place-prints.ensures)) (omega (arith, c.requires.check_value, c.prints_place-prints.ensures))
    (c.write_check_head.ensures ∙ ap (λ (v : ℕ). put (check_head v h.number h.length h.m h.n h.seed) c.args.check.now) c.requires.version_value) c.write_prints.new.out
    ∙ check_written h.m h.n seed h.number h.length bodies h.seed c.write_hashes.new.out c.write_prints.new.out is c.write_hashes.ensures c.write_prints.ensures
    ∙ ap (λ (F : ℕ). check_of h.m h.n seed h.number h.length (body_among F c.args.fragments.now)) c.body_length-size.ensures
