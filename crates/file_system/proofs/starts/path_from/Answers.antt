use Rattle.std.proofs.Common.{◌≡◌, ◌∷◌, ◌++◌, [], ℕ, List, ap, append_assoc, arith, eqb-true, sym, ◌∙◌}
use Rattle.std.specs.Prelude.{length}
use Rattle.std.specs.Global.{Vec}
use Rattle.file_system.proofs.StartLemmas.{Begins, begins_alone, begins_on, goes_on, name_alone, part_of, starts}
use Rattle.file_system.proofs.starts.path_from.Goals.{Joined-not-is_empty, then-not-is_empty+in_ok-push+in_ok-extend_from_slice, else-not-is_empty}
use Rattle.file_system.proofs.starts.path_from.Goals as goal

begins : (c : Joined-not-is_empty) → Begins c.args.number c.args.names.now c.if-not-is_empty.text.items
begins c =
    let n = c.args.number in
    let names = c.args.names.now in
    let number : c.into_bytes-text.result.items ≡ part_of n = ap (λ (v : Vec ℕ). v.items) c.into_bytes-text.ensures.value ∙ c.in_ok-format.ensures.ok in
    elim c.if-not-is_empty.branch [
      | then-not-is_empty+in_ok-push+in_ok-extend_from_slice w ↦
          begins_on n names c.if-not-is_empty.text.items (omega (arith, c.ranges.number.fits))
          (ap (λ (v : Vec ℕ). v.items) w.text-is ∙ w.in_ok-extend_from_slice.ensures.items ∙ ap (λ (ts : List ℕ). ts ++ names) (w.in_ok-push.ensures.items ∙ ap (λ (ts : List ℕ). ts ++ 47 ∷ []) number) ∙ append_assoc (part_of n) (47 ∷ []) names)
      | else-not-is_empty w ↦
          begins_alone n names c.if-not-is_empty.text.items (omega (arith, c.ranges.number.fits)) (eqb-true (length names) 0 (sym c.is_empty.ensures ∙ w.if-not-is_empty.false)) (ap (λ (v : Vec ℕ). v.items) w.text-is ∙ number)
    ]

pub returns-clause-starts : goal.returns-clause-starts
returns-clause-starts c = starts c.args.number c.args.names.now c.if-not-is_empty.text.items (omega (arith, c.ranges.number.fits)) (begins c)

pub returns-clause-goes_on : goal.returns-clause-goes_on
returns-clause-goes_on c = goes_on c.args.number c.args.names.now c.if-not-is_empty.text.items (omega (arith, c.ranges.number.fits)) (begins c)

pub returns-clause-one_name : goal.returns-clause-one_name
returns-clause-one_name c named = returns-clause-goes_on c ∙ name_alone c.args.names.now named
