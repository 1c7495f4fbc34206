-- What becomes of names when an entry goes or comes.
use Rattle.std.proofs.Common.{◌≡◌, ◌≢◌, inl, inr, ℕ, ◌==◌, List, [], ◌∷◌, ◌++◌, Option, Some, None, refl, sym, ap, subst, ◌∙◌, true, false, bytes_eq, cond}
use Rattle.std.proofs.lemmas.Bool.{cases_Bool, cases_eq, cond-true, cond-false, eq-eqb, ne_eqb}
use Rattle.std.proofs.lemmas.Slice.Eq.{bytes_eq-Decides}
use Rattle.layout.specs.Directory.{Named}
use Rattle.model.specs.Paths.{Name}
use Rattle.layout.specs.DirectoryNames.{number_of, HasEachOnce, NameMap, AreNames}
use Rattle.entries.specs.Entries.{without}
use Rattle.entries.proofs.MissingLaws.{same_name, other_name, not_same, number_of-here, number_of-behind, missing_parts, without-here, without-behind}
use Rattle.dirs.specs.Directory.{with_name, with_at}
use Rattle.model.proofs.OptionLaws.{none_some}

-- ---- one list of entries

-- the names of entries without one
pub number_of-without : (name other : Name) (entries : List Named) → HasEachOnce entries
    → number_of other (without name entries) ≡ cond (bytes_eq other name) None (number_of other entries)
number_of-without name other [] once = elim (cases_Bool (bytes_eq other name)) [ inl same ↦ rw same refl | inr differs ↦ rw differs refl ]
number_of-without name other (e ∷ entries) once =
    elim (cases_Bool (bytes_eq name e.name)) [
      | inl here ↦
          let is : name ≡ e.name = same_name name e.name here in
          ap (number_of other) (without-here name e entries here) ∙ elim (cases_Bool (bytes_eq other name)) [
            | inl same ↦ rw same (ap (λ n. number_of n entries) (same_name other name same ∙ is) ∙ once.0)
            | inr differs ↦
                let apart : bytes_eq other e.name ≡ false = subst (λ n. bytes_eq other n ≡ false) is differs in
                rw differs (sym (number_of-behind other e entries apart))
          ]
      | inr behind ↦
          ap (number_of other) (without-behind name e entries behind) ∙ elim (cases_Bool (bytes_eq other e.name)) [
            | inl here ↦
                let apart : bytes_eq other name ≡ false = other_name other name (λ is. not_same name e.name behind (sym is ∙ same_name other e.name here)) in
                number_of-here other e (without name entries) here ∙ sym (cond-false (bytes_eq other name) None (number_of other (e ∷ entries)) apart ∙ number_of-here other e entries here)
            | inr apart ↦
                number_of-behind other e (without name entries) apart ∙ number_of-without name other entries once.1
                ∙ ap (cond (bytes_eq other name) None) (sym (number_of-behind other e entries apart))
          ]
    ]

pub without-once : (name : Name) (entries : List Named) → HasEachOnce entries → HasEachOnce (without name entries)
without-once name [] once = tt
without-once name (e ∷ entries) once =
    elim (cases_Bool (bytes_eq name e.name)) [
      | inl here ↦ subst HasEachOnce (sym (without-here name e entries here)) once.1
      | inr behind ↦
          let free : number_of e.name (without name entries) ≡ None =
          number_of-without name e.name entries once.1 ∙ elim (cases_Bool (bytes_eq e.name name)) [ inl same ↦ rw same refl | inr differs ↦ rw differs once.0 ] in
          subst HasEachOnce (sym (without-behind name e entries behind)) (free, without-once name entries once.1)
    ]

-- the names of entries with one more behind them
pub number_of-more : (name : Name) (e : Named) (entries : List Named) → number_of e.name entries ≡ None
    → number_of name (entries ++ e ∷ []) ≡ cond (bytes_eq name e.name) (Some e.number) (number_of name entries)
number_of-more name e [] free = refl
number_of-more name e (f ∷ entries) free =
    let m = missing_parts e.name f entries free in
    elim (cases_Bool (bytes_eq name f.name)) [
      | inl here ↦
          let apart : bytes_eq name e.name ≡ false = other_name name e.name (λ is. not_same e.name f.name m.apart (sym is ∙ same_name name f.name here)) in
          number_of-here name f (entries ++ e ∷ []) here ∙ sym (cond-false (bytes_eq name e.name) (Some e.number) (number_of name (f ∷ entries)) apart ∙ number_of-here name f entries here)
      | inr behind ↦
          number_of-behind name f (entries ++ e ∷ []) behind ∙ number_of-more name e entries m.behind
          ∙ ap (cond (bytes_eq name e.name) (Some e.number)) (sym (number_of-behind name f entries behind))
    ]

pub more-once : (e : Named) (entries : List Named) → HasEachOnce entries → number_of e.name entries ≡ None → HasEachOnce (entries ++ e ∷ [])
more-once e [] once free = (refl, tt)
more-once e (f ∷ entries) once free =
    let m = missing_parts e.name f entries free in
    let apart : bytes_eq f.name e.name ≡ false = other_name f.name e.name (λ is. not_same e.name f.name m.apart (sym is)) in
    (number_of-more f.name e entries m.behind ∙ rw apart once.0, more-once e entries once.1 m.behind)

-- ---- the entries of all blocks

-- what one place of a changed function gives, and any other
pub with_at-here : {X : Type 0} (i j : ℕ) (x : X) (f : ℕ → X) → j ≡ i → with_at i x f j ≡ x
with_at-here i j x f is = cond-true (j == i) x (f j) (eq-eqb j i is)

pub with_at-else : {X : Type 0} (i j : ℕ) (x : X) (f : ℕ → X) → (j ≢ i) → with_at i x f j ≡ f j
with_at-else i j x f ne = cond-false (j == i) x (f j) (ne_eqb j i ne)

-- one list of entries in place of another, whose names but one stay
pub record Swaps (i : ℕ) (name : Name) (to : Option ℕ) (new : List Named) (entries : ℕ → List Named) : Type 0 where
  pub each : HasEachOnce new
  pub are : (other : Name) → number_of other new ≡ cond (bytes_eq other name) to (number_of other (entries i))
  pub nowhere : (j : ℕ) → j ≢ i → number_of name (entries j) ≡ None

module _ (i : ℕ) (name : Name) (to : Option ℕ) (new : List Named) (entries : ℕ → List Named) (names : NameMap) (swaps : Swaps i name to new entries) (are : AreNames entries names) where
  -- of each name but the one, the lists give what they gave
  kept : (j : ℕ) (other : Name) → bytes_eq other name ≡ false → number_of other (with_at i new entries j) ≡ number_of other (entries j)
  kept j other apart =
      elim (cases_eq j i) [
        | inl here ↦ ap (number_of other) (with_at-here i j new entries here) ∙ swaps.are other ∙ rw apart (ap (λ k. number_of other (entries k)) (sym here))
        | inr else ↦ ap (number_of other) (with_at-else i j new entries else)
      ]

  -- the one stands at i alone
  changed : (j : ℕ) (n : ℕ) → number_of name (with_at i new entries j) ≡ Some n → (j ≡ i) × (to ≡ Some n)
  changed j n is =
      elim (cases_eq j i) [
        | inl here ↦ (here, sym (ap (number_of name) (with_at-here i j new entries here) ∙ swaps.are name ∙ cond-true (bytes_eq name name) to (number_of name (entries i)) ((bytes_eq-Decides name name).1 refl)) ∙ is)
        | inr else ↦ none_some (sym (ap (number_of name) (with_at-else i j new entries else) ∙ swaps.nowhere j else) ∙ is)
      ]

  -- what a name is changed to
  to_is : (other : Name) → bytes_eq other name ≡ true → with_name name to names other ≡ to
  to_is other same = cond-true (bytes_eq other name) to (names other) same

  stays : (other : Name) → bytes_eq other name ≡ false → with_name name to names other ≡ names other
  stays other apart = cond-false (bytes_eq other name) to (names other) apart

  -- where a list has the name itself
  at_name : (j n : ℕ) (other : Name) → bytes_eq other name ≡ true → number_of other (with_at i new entries j) ≡ Some n → (j ≡ i) × (to ≡ Some n)
  at_name j n other same is = changed j n (ap (λ x. number_of x (with_at i new entries j)) (sym (same_name other name same)) ∙ is)

  pub swapped : AreNames (with_at i new entries) (with_name name to names)
  swapped = record {
    each = λ j. elim (cases_eq j i) [
      | inl here ↦ subst HasEachOnce (sym (with_at-here i j new entries here)) swaps.each
      | inr else ↦ subst HasEachOnce (sym (with_at-else i j new entries else)) (are.each j)
    ];
    once = λ j k other m n first second. elim (cases_Bool (bytes_eq other name)) [
      | inl same ↦ (at_name j m other same first).0 ∙ sym (at_name k n other same second).0
      | inr apart ↦ are.once j k other m n (sym (kept j other apart) ∙ first) (sym (kept k other apart) ∙ second)
    ];
    found = λ j other n is. elim (cases_Bool (bytes_eq other name)) [
      | inl same ↦ to_is other same ∙ (at_name j n other same is).1
      | inr apart ↦ stays other apart ∙ are.found j other n (sym (kept j other apart) ∙ is)
    ];
    only = λ other none. elim (cases_Bool (bytes_eq other name)) [
      | inl same ↦ to_is other same ∙ sym (ap (number_of other) (with_at-here i i new entries refl) ∙ swaps.are other ∙ cond-true (bytes_eq other name) to (number_of other (entries i)) same) ∙ none i
      | inr apart ↦ stays other apart ∙ are.only other (λ j. sym (kept j other apart) ∙ none j)
    ];
  }

-- a name is gone with its entry
pub removed : (i : ℕ) (name : Name) (n : ℕ) (entries : ℕ → List Named) (names : NameMap) → number_of name (entries i) ≡ Some n → AreNames entries names
    → AreNames (with_at i (without name (entries i)) entries) (with_name name None names)
removed i name n entries names stands are =
    swapped i name None (without name (entries i)) entries names (record {
      each = without-once name (entries i) (are.each i);
      are = λ other. number_of-without name other (entries i) (are.each i);
      nowhere = λ j else. elsewhere j else (number_of name (entries j)) refl;
    }) are
  where
    elsewhere : (j : ℕ) → j ≢ i → (o : Option ℕ) → number_of name (entries j) ≡ o → number_of name (entries j) ≡ None
    elsewhere j else None is = is
    elsewhere j else (Some m) is = absurd (else (are.once j i name m n is stands))

-- a name stands nowhere where it isn't one of the directory's
pub nowhere : (name : Name) (entries : ℕ → List Named) (names : NameMap) (j : ℕ) → AreNames entries names → names name ≡ None → number_of name (entries j) ≡ None
nowhere name entries names j are none = stands (number_of name (entries j)) refl
  where
    stands : (o : Option ℕ) → number_of name (entries j) ≡ o → number_of name (entries j) ≡ None
    stands None is = is
    stands (Some n) is = none_some (sym none ∙ are.found j name n is)

-- a name comes with its entry
pub added_to : (i : ℕ) (e : Named) (entries : ℕ → List Named) (names : NameMap) → names e.name ≡ None → AreNames entries names
    → AreNames (with_at i (entries i ++ e ∷ []) entries) (with_name e.name (Some e.number) names)
added_to i e entries names free are =
    let nowhere_yet : (j : ℕ) → number_of e.name (entries j) ≡ None = λ j. nowhere e.name entries names j are free in
    swapped i e.name (Some e.number) (entries i ++ e ∷ []) entries names (record {
      each = more-once e (entries i) (are.each i) (nowhere_yet i);
      are = λ other. number_of-more other e (entries i) (nowhere_yet i);
      nowhere = λ j else. nowhere_yet j;
    }) are
