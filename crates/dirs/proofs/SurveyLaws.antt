-- A survey with one block more.
use Rattle.std.proofs.Common.{◌≡◌, inl, inr, ℕ, is_some, IsSome, true, false, true≢false, ◌+◌, ◌*◌, ◌<◌, ◌≤◌, List, Option, Some, None, sym, ap, subst, ◌∙◌, arith, add-one, leb}
use Rattle.std.proofs.lemmas.Bool.{cases_Bool, cases_eq, leb-true, leb-false, cond-true, cond-false}
use Rattle.std.proofs.lemmas.List.{length-append}
use Rattle.layout.specs.Directory.{Named, HoldsEntries}
use Rattle.model.specs.Paths.{Name}
use Rattle.entries.specs.Entries.{used_by}
use Rattle.dirs.specs.Directory.{first_entries}
use Rattle.entries.specs.Looks.{TellsEntries, IsLikely}
use Rattle.dirs.specs.Edits.{IsNamePlace}
use Rattle.dirs.specs.Surveys.{SurveysBlocks, IsBounded, IsFirstRoom, next_place, next_room}
use Rattle.dirs.specs.declared.edit.Place.{Place}
use Rattle.layout.specs.DirectoryNames.{AreNames, HoldNames, NameMap, number_of}
use Rattle.dirs.proofs.HoldLaws.{missing_name}
use Rattle.entries.specs.declared.look.Look.{Look}
use Rattle.dirs.specs.declared.survey.Survey.{Survey}

room_more : (entries : ℕ → List Named) (i bytes : ℕ) (room : Option ℕ) → IsFirstRoom entries i bytes room → IsFirstRoom entries (i + 1) bytes (next_room i (used_by (entries i) + bytes) room)
room_more entries i bytes (Some first) has = (omega (arith, has.0), has.1, has.2)
room_more entries i bytes None has =
    elim (cases_Bool (leb (used_by (entries i) + bytes) 4096)) [
      | inl fits ↦ subst (IsFirstRoom entries (i + 1) bytes) (sym (cond-true (leb (used_by (entries i) + bytes) 4096) (Some i) None fits)) (omega arith, leb-true _ _ fits, has)
      | inr full ↦ subst (IsFirstRoom entries (i + 1) bytes) (sym (cond-false (leb (used_by (entries i) + bytes) 4096) (Some i) None full)) (λ j below.
          elim (cases_eq j i) [
            | inl same ↦ subst (λ k. 4096 < used_by (entries k) + bytes) (sym same) (leb-false _ _ full)
            | inr else ↦ has j (omega (arith, below, else))
          ])
    ]

pub bounded_more : (i bytes : ℕ) (s t : Survey) (l : Look) → bytes ≤ 260 → IsLikely l → t.names ≡ s.names + l.names → (r : Option ℕ) → IsBounded i s r → IsBounded (i + 1) t (next_room i (l.used + bytes) r)
bounded_more i bytes s t l short likely names (Some first) bounded = omega (arith, bounded)
bounded_more i bytes s t l short likely names None bounded =
    elim (cases_Bool (leb (l.used + bytes) 4096)) [
      | inl fits ↦ subst (IsBounded (i + 1) t) (sym (cond-true (leb (l.used + bytes) 4096) (Some i) None fits)) (omega arith)
      | inr over ↦
          let most : 4096 < l.used + bytes = leb-false _ _ over in
          let many : 15 * (i + 1) ≤ t.names = omega (arith, likely.used, bounded) in
          subst (IsBounded (i + 1) t) (sym (cond-false (leb (l.used + bytes) 4096) (Some i) None over)) many
    ]

place_more : (entries : ℕ → List Named) (i : ℕ) (name : Name) (place : Option Place) → IsNamePlace entries i name place → (number : Option ℕ) → number ≡ number_of name (entries i)
    → IsNamePlace entries (i + 1) name (next_place i number place)
place_more entries i name (Some first) has number here = (omega (arith, has.0), has.1)
place_more entries i name None has (Some number) here = (omega arith, sym here)
place_more entries i name None has None here = λ j below. elim (cases_eq j i) [
  | inl same ↦ ap (λ k. number_of name (entries k)) same ∙ sym here
  | inr else ↦ has j (omega (arith, below, else))
]

pub finds_more : (inodes : ℕ) (block : ℕ → List ℕ) (i bytes : ℕ) (name : Name) (s t : Survey) (l : Look) → SurveysBlocks inodes block i name bytes s → TellsEntries inodes (block i) name l
    → t.place ≡ next_place i l.number s.place → t.names ≡ s.names + l.names → t.room ≡ next_room i (l.used + bytes) s.room → SurveysBlocks inodes block (i + 1) name bytes t
finds_more inodes block i bytes name s t l finds tells place names room = record {
  place = λ entries holds.
      let before = finds.place entries (λ j below. holds j (omega (arith, below))) in
      subst (IsNamePlace entries (i + 1) name) (sym place) (place_more entries i name s.place before l.number (tells.number (entries i) (holds i (omega arith))));
  names = λ entries holds.
      let before = finds.names entries (λ j below. holds j (omega (arith, below))) in
      let here = tells.names (entries i) (holds i (omega arith)) in
      rw add-one (omega (arith, names, before, here, length-append (entries i) (first_entries entries i)));
  room = λ entries holds.
      let before = finds.room entries (λ j below. holds j (omega (arith, below))) in
      let here = tells.used (entries i) (holds i (omega arith)) in
      subst (IsFirstRoom entries (i + 1) bytes) (sym (room ∙ ap (λ u. next_room i (u + bytes) s.room) here)) (room_more entries i bytes s.room before);
  sound = λ j below. elim (cases_eq j i) [
    | inl here ↦ (tells.entries, subst (λ k. HoldsEntries inodes (block k) tells.entries) (sym here) tells.holds)
    | inr else ↦ finds.sound j (omega (arith, below, else))
  ];
}

-- ---- where a name stands

none_placed : (entries : ℕ → List Named) (count : ℕ) (name : Name) (place : Option Place) → is_some place ≡ false → IsNamePlace entries count name place → (i : ℕ) → i < count → number_of name (entries i) ≡ None
none_placed entries count name None is none = none
none_placed entries count name (Some p) is has = absurd (true≢false is)

some_placed : (entries : ℕ → List Named) (count : ℕ) (names : NameMap) (name : Name) (place : Option Place) → is_some place ≡ true → AreNames entries names → IsNamePlace entries count name place → IsSome (names name)
some_placed entries count names name None is are has = absurd (true≢false (sym is))
some_placed entries count names name (Some p) is are has = ap is_some (are.found p.block name p.number has.1)

module _ (inodes count : ℕ) (block : ℕ → List ℕ) (names : NameMap) (name : Name) (bytes : ℕ) (s : Survey) (has : HoldNames inodes count block names) (surveys : SurveysBlocks inodes block count name bytes s) where
  pub free_name : is_some s.place ≡ false → names name ≡ None
  free_name is = missing_name inodes count block names name has (none_placed has.entries count name s.place is (surveys.place has.entries has.holds))

  pub taken_name : is_some s.place ≡ true → IsSome (names name)
  taken_name is = some_placed has.entries count names name s.place is has.are (surveys.place has.entries has.holds)
