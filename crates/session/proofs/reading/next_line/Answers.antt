use Rattle.std.proofs.Common.{◌≡◌, ◌∷◌, ◌+◌, List, ℕ, take, drop, sym, subst}
use Rattle.std.specs.Io.KnownBytes.{prepend_known}
use Rattle.session.specs.Reading.{IsHeardAs, IsPlain, Loses}
use Rattle.session.proofs.ReadingLemmas.{ends_rest, keeps_twice, line_taken, loses_kept}
use Rattle.session.proofs.reading.next_line.Goals as goal

pub returns-in-Ok-clause-line : goal.returns-in-Ok-clause-line
returns-in-Ok-clause-line g c =
    let known = prepend_known c.args.pending.now.items (g.R.Read.remaining c.args.input.now.inner) in
    let r = g.R.Read.remaining c.loop.input.inner in
    let p = c.loop.pending.items in
    let end = c.in-Some.end in
    let found = c.in-Some.ensures.found in
    let value = c.deref.ensures.value in
    let ends = subst (λ (l : List ℕ). drop end l ≡ 10 ∷ drop (end + 1) l) value found.2 in (
      take end p,
      record {
        plain = subst (λ (l : List ℕ). IsPlain (take end l)) value found.1;
        loses = subst (λ (l : List ℕ). Loses known (prepend_known l r) (take end p)) (sym c.in-Ok.ensures.rest)
            (loses_kept known (prepend_known p r) _ (take end p) c.loop.invariant.kept (line_taken p r end ends));
      },
      subst (λ (l : List ℕ). IsHeardAs l c.read_as.result) c.in-Ok.ensures.line c.read_as.ensures,
    )

pub returns-in-Ok-false-clause-line : goal.returns-in-Ok-false-clause-line
returns-in-Ok-false-clause-line g c =
    let known = prepend_known c.args.pending.now.items (g.R.Read.remaining c.args.input.now.inner) in
    let before = prepend_known c.loop.pending.items (g.R.Read.remaining c.loop.input.inner) in
    let r = g.R.Read.remaining c.read_more.new.input.inner in
    let p = c.read_more.new.pending.items in
    let end = c.in-Ok-false.ensures.end c.in-Ok-false.field-0-test in
    ends_rest known p c.take_rest.new.pending.items r c.take_rest.result (keeps_twice known before (prepend_known p r) c.loop.invariant.kept c.in-Ok-false.ensures.kept) end.1
    (subst IsPlain (sym end.0) (subst IsPlain c.deref.ensures.value (c.in_default.ensures.none search))) c.take_rest.ensures.emptied c.take_rest.ensures.rest
