use Rattle.std.proofs.Common.{◌≡◌, ◌+◌, ap, ◌∙◌, arith}
use Rattle.std.specs.Int.{cast_unsigned, w64}
use Rattle.std.proofs.lemmas.Int.{to_z-of_z}
use Rattle.layout.proofs.WritingLaws.{writes_both, written_to}
use Rattle.layout.proofs.attributes.put_time.Goals as goal

pub returns : goal.returns
returns c =
    let at = c.args.at in
    let seconds : c.cast_unsigned.result ≡ cast_unsigned w64 c.args.time.seconds =
    c.cast_unsigned.ensures ∙ ap (cast_unsigned w64) (to_z-of_z w64 c.args.time.seconds c.fits.ensures.seconds) in
    rw (← seconds, ← c.count.ensures.same) (writes_both c.put_u64.ensures (written_to {end = at + 12} (omega arith) c.put_u32.ensures))
