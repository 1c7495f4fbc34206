use Rattle.std.proofs.Common.{◌∙◌, inl, inr, ◌<◌, ◌≤◌, is_some, length, arith, get_or, sym, ap}
use Rattle.std.specs.Prelude.{slice_get}
use Rattle.std.proofs.Math.Nat.{eq-or-lt_of_le}
use Rattle.std.proofs.lemmas.Option.{slice_get-get_or, slice_get_within}
use Rattle.model.proofs.ListingLemmas.{names_apart}
use Rattle.checker.proofs.SeenNames.{both_ways, grown_other, grown_same, has_key}
use Rattle.checker.proofs.seen.Rising.to_set.Goals as goal

pub loop-k-preserved : goal.loop-k-preserved
loop-k-preserved c =
    let before = c.loop-k.invariant in
    let k = c.loop-k.k in
    let spans = c.args.self.now.spans.items in
    let key = c.in_ok-name.name in
    let is = c.in_ok-name.ensures.items in
    let grows = c.in_ok-insert.ensures.updates.0 in
    let low : k < length spans = omega (arith, c.loop-k-test.true, c.len-k-end.ensures, c.args.self.now.spans.ok.0) in
    record {
      risen = λ q yes. elim (names_apart q.items key.items) [
        | inl same ↦
            let s = get_or spans k (record { from = 0; to = 0 }) in
            let at = slice_get-get_or spans k (record { from = 0; to = 0 }) low in
            (k, s, at, sym (c.name.ensures s at) ∙ sym is ∙ sym same)
        | inr other ↦ before.risen q (sym (grown_other c.loop-k.set c.insert.new.self key grows q other) ∙ yes)
      ];
      has = λ j s q lt at named. elim (names_apart q.items key.items) [
        | inl same ↦ grown_same c.loop-k.set c.insert.new.self key grows q same
        | inr other ↦
            let most : j ≤ k = omega (arith, lt) in
            grown_other c.loop-k.set c.insert.new.self key grows q other
            ∙ elim (eq-or-lt_of_le most) [
              | inl last ↦ absurd (other (named ∙ sym (c.name.ensures s (sym (ap (slice_get spans) last) ∙ at)) ∙ sym is))
              | inr less ↦ before.has j s q less at named
            ]
      ];
    }

pub returns : goal.returns
returns c = λ names knows q.
    both_ways (has_key c.loop-k.set q) (is_some (names q.items)) (λ yes. knows.had q.items (c.loop-k.invariant.risen q yes))
    (λ some.
    let one = knows.has q.items some in
    let low = slice_get_within c.args.self.now.spans.items one.0 one.1 one.2 in
    c.loop-k.invariant.has one.0 one.1 q (omega (arith, low, c.loop-k-test.false, c.len-k-end.ensures, c.args.self.now.spans.ok.0)) one.2 (sym one.3))
