-- What a search in an index of planned blocks finds, and what sorted entries are.
use Rattle.std.proofs.Common.{◌≡◌, ◌≢◌, inl, inr, ℕ, ◌<◌, List, length, get_or, Ok, Err, sym, ap, subst, ◌∙◌, arith}
use Rattle.std.specs.List.Sorted.{IsBinarySearchResult, IsNonDecreasingBy, IsPermutation}
use Rattle.std.specs.Ordering.{nat_cmp, ordering_index}
use Rattle.std.proofs.lemmas.Bool.{cases_lt}
use Rattle.std.proofs.lemmas.Bool.Decides.{nat_tests}
use Rattle.std.proofs.lemmas.Cmp.{ranked}
use Rattle.std.proofs.lemmas.List.Sorted.{All-permutation, IsPermutation-sym}
use Rattle.std.proofs.lemmas.List.{get_or_default}
use Rattle.conspoint.specs.Finished.{IsAbsent}
use Rattle.conspoint.specs.declared.plan.PlannedBlock.{PlannedBlock}
use Rattle.overlay.specs.Indexes.{IsAt, IsIndex, Leads}
use Rattle.overlay.specs.declared.pending.Entry.{Entry}

module _ (index : List Entry) (blocks : List PlannedBlock) (is : IsIndex index blocks) (place at : ℕ) where
  -- the comparisons with a place rise
  rise : IsNonDecreasingBy (λ e. ordering_index (nat_cmp e.place place)) index
  rise i j d le lt = let up = is.rising i j d le lt in grind (arith, nat_tests, up)

  -- what is found leads to a block of the place
  pub hit : (e : Entry) (b : PlannedBlock) → at < length index → IsBinarySearchResult (λ x. nat_cmp x.place place) index (Ok at)
      → e ≡ get_or index at e → IsAt blocks place (get_or blocks e.nth b).bytes
  hit e b lt equal here =
      let lead : Leads blocks e = subst (Leads blocks) (sym here) (is.leads at e lt) in
      let same : e.place ≡ place = ap (λ (x : Entry). x.place) here ∙ ranked _ place _ (sym (equal e)) in
      let x : PlannedBlock = record { place = place; bytes = (get_or blocks e.nth b).bytes } in (
        e.nth,
        lead.0,
        get_or_default blocks e.nth x b lead.0
            ∙ ap (λ (p : ℕ). record { place = p; bytes = (get_or blocks e.nth b).bytes }) (lead.1 b ∙ same),
      )

  -- where nothing is found no block has the place
  pub missed : IsBinarySearchResult (λ x. nat_cmp x.place place) index (Err at) → IsAbsent blocks place
  missed parted = is.complete place (λ k e lt same. elim (cases_lt k at) [
    | inl below ↦ absurd (omega (arith, same, ranked _ place _ (sym ((parted rise).0 k e (omega arith) below))))
    | inr above ↦ absurd (omega (arith, same, above, ranked _ place _ (sym ((parted rise).1 k e (omega (arith, above)) lt))))
  ])

-- an entry for each block in their order, then sorted
pub sorted : (made index : List Entry) (blocks : List PlannedBlock) → length made ≡ length blocks
    → ((k : ℕ) (e : Entry) → k < length blocks → (get_or made k e).nth ≡ k)
    → ((k : ℕ) (e : Entry) (d : PlannedBlock) → k < length blocks → (get_or made k e).place ≡ (get_or blocks k d).place)
    → IsPermutation made index → IsNonDecreasingBy (λ e. e.place) index → IsIndex index blocks
sorted made index blocks long nths places moved rising = record {
  rising = rising;
  leads = All-permutation (Leads blocks) made index moved (λ k e lt.
      let within : k < length blocks = omega (arith, long, lt) in
      let nth = nths k e within in
      (omega (arith, nth, within), λ d. ap (λ (n : ℕ). (get_or blocks n d).place) nth ∙ sym (places k e d within)));
  complete = λ place none k d lt same.
      let e : Entry = record { place = place; nth = k } in
      All-permutation (λ e. e.place ≢ place) index made (IsPermutation-sym made index moved) none k e (omega (arith, long, lt)) (places k e d lt ∙ same);
}
