use Rattle.std.proofs.Common.{◌≡◌, ◌∷◌, ◌+◌, List, ℕ, take, drop, sym, subst, ◌∙◌}
use Rattle.std.specs.Io.KnownBytes.{prepend_known, Keeps}
use Rattle.session.specs.Reading.{IsHeardAs, IsPlain, TakesLine}
use Rattle.session.specs.declared.reading.Heard.TheVariants.{TooLong}
use Rattle.session.proofs.ReadingLemmas.{skipped_all, skipped_to, skipping_on}
use Rattle.session.proofs.reading.skip_line.Goals as goal

pub loop-preserved : goal.loop-preserved
loop-preserved g c =
    let known = prepend_known c.args.pending.now.items (g.R.Read.remaining c.args.input.now.inner) in
    let kept = subst (λ (l : List ℕ). Keeps (prepend_known l (g.R.Read.remaining c.loop.input.inner)) (prepend_known c.read_more.new.pending.items (g.R.Read.remaining c.read_more.new.input.inner))) c.clear.ensures.items c.in-Ok-true.ensures.kept in
    skipping_on known c.loop.pending.items _ c.is_skipped-is_comment.result c.loop.invariant c.read_more.new.pending.items _ kept
    (subst IsPlain c.deref-in-loop.ensures.value (c.in_default.ensures.none search))

pub returns-in-Some-clause-line : goal.returns-in-Some-clause-line
returns-in-Some-clause-line g c =
    let known = prepend_known c.args.pending.now.items (g.R.Read.remaining c.args.input.now.inner) in
    let r = g.R.Read.remaining c.read_more.new.input.inner in
    let kept = subst (λ (l : List ℕ). Keeps (prepend_known l (g.R.Read.remaining c.loop.input.inner)) (prepend_known c.read_more.new.pending.items r)) c.clear.ensures.items c.in-Ok-true.ensures.kept in
    let found = c.in-Some.ensures.found in
    let value = c.deref-in-loop.ensures.value in
    let end = c.in-Some.end in
    let skipped = skipped_to known c.loop.pending.items _ c.is_skipped-is_comment.result c.loop.invariant c.read_more.new.pending.items r kept end
    (subst (λ (l : List ℕ). IsPlain (take end l)) value found.1) (subst (λ (l : List ℕ). drop end l ≡ 10 ∷ drop (end + 1) l) value found.2) in
    subst (λ (l : List ℕ). (line : List ℕ) × TakesLine known (prepend_known l r) line × IsHeardAs line (TooLong c.is_skipped-is_comment.result)) (sym c.in-Ok.ensures.rest) skipped

pub returns-in-Ok-false-clause-line : goal.returns-in-Ok-false-clause-line
returns-in-Ok-false-clause-line g c =
    let known = prepend_known c.args.pending.now.items (g.R.Read.remaining c.args.input.now.inner) in
    let r = g.R.Read.remaining c.read_more.new.input.inner in
    let kept = subst (λ (l : List ℕ). Keeps (prepend_known l (g.R.Read.remaining c.loop.input.inner)) (prepend_known c.read_more.new.pending.items r)) c.clear.ensures.items c.in-Ok-false.ensures.kept in
    let end = c.in-Ok-false.ensures.end c.in-Ok-false.field-0-test in
    skipped_all known c.loop.pending.items _ c.is_skipped-is_comment.result c.loop.invariant c.read_more.new.pending.items r kept (end.0 ∙ c.clear.ensures.items) end.1
