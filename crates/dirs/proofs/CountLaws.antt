-- How many names a directory has: as many as its blocks have entries.
use Rattle.std.proofs.Common.{◌≡◌, ◌≢◌, ◌⊎◌, inl, inr, ℕ, zero, suc, ◌<◌, ◌≤◌, List, [], ◌∷◌, ◌++◌, length, Option, Some, None, IsSome, is_some, refl, sym, ap, ◌∙◌, arith, true, bytes_eq}
use Rattle.std.proofs.lemmas.Bool.{cases_Bool, cases_lt, cases_eq, false≢true}
use Rattle.layout.specs.Directory.{Named}
use Rattle.model.specs.Paths.{Name}
use Rattle.layout.specs.DirectoryNames.{number_of, HasEachOnce, NameMap, AreNames}
use Rattle.model.specs.Counting.{Counts}
use Rattle.dirs.specs.Directory.{HasCount, first_entries}
use Rattle.entries.proofs.MissingLaws.{number_of-here, number_of-behind, not_same, other_name, missing_parts}
use Rattle.model.proofs.OptionLaws.{none_some}

-- a name stands among the entries, or doesn't
abbrev pub StandsIn : Name → List Named → Type 0
StandsIn name entries = (n : ℕ) × (number_of name entries ≡ Some n)

pub stands_or_not : (name : Name) (entries : List Named) → StandsIn name entries ⊎ (number_of name entries ≡ None)
stands_or_not name entries = cases (number_of name entries) refl
  where
    cases : (o : Option ℕ) → number_of name entries ≡ o → StandsIn name entries ⊎ (number_of name entries ≡ None)
    cases None is = inr is
    cases (Some n) is = inl (n, is)

pub some_of : (o : Option ℕ) → IsSome o → (n : ℕ) × (o ≡ Some n)
some_of None some = absurd (false≢true some)
some_of (Some n) some = (n, refl)

-- ---- one list

pub counted : (P : Name → Type 0) (entries : List Named) → HasEachOnce entries → ((name : Name) → P name → StandsIn name entries)
    → ((name : Name) → StandsIn name entries → P name) → Counts P (length entries)
counted P [] once into out = λ name holds. let s = into name holds in none_some s.1
counted P (e ∷ entries) once into out = (
  e.name,
  out e.name (e.number, number_of-here e.name e entries (itself e.name)),
  counted (λ b. P b × (b ≢ e.name)) entries once.1
      (λ name holds.
      let s = into name holds.0 in
      (s.0, sym (number_of-behind name e entries (other_name name e.name holds.1)) ∙ s.1))
      (λ name stands.
      let ne : name ≢ e.name = λ is. none_some (sym once.0 ∙ ap (λ n. number_of n entries) (sym is) ∙ stands.1) in
      (out name (stands.0, number_of-behind name e entries (other_name name e.name ne) ∙ stands.1), ne)),
)
  where
    itself : (name : Name) → bytes_eq name name ≡ true
    itself name = elim (cases_Bool (bytes_eq name name)) [ inl is ↦ is | inr isnt ↦ absurd (not_same name name isnt refl) ]

-- ---- one list behind another

stands-left : (name : Name) (front rest : List Named) (n : ℕ) → number_of name front ≡ Some n → number_of name (front ++ rest) ≡ Some n
stands-left name [] rest n is = none_some is
stands-left name (e ∷ front) rest n is =
    elim (cases_Bool (bytes_eq name e.name)) [
      | inl here ↦ number_of-here name e (front ++ rest) here ∙ sym (number_of-here name e front here) ∙ is
      | inr behind ↦ number_of-behind name e (front ++ rest) behind ∙ stands-left name front rest n (sym (number_of-behind name e front behind) ∙ is)
    ]

stands-right : (name : Name) (front rest : List Named) → number_of name front ≡ None → number_of name (front ++ rest) ≡ number_of name rest
stands-right name [] rest none = refl
stands-right name (e ∷ front) rest none =
    let m = missing_parts name e front none in
    number_of-behind name e (front ++ rest) m.apart ∙ stands-right name front rest m.behind

once-append : (front rest : List Named) → HasEachOnce front → HasEachOnce rest → ((name : Name) → StandsIn name front → number_of name rest ≡ None) → HasEachOnce (front ++ rest)
once-append [] rest first second apart = second
once-append (e ∷ front) rest first second apart = (
  stands-right e.name front rest first.0 ∙ apart e.name (e.number, number_of-here e.name e front (itself e.name)),
  once-append front rest first.1 second (λ name stands.
      let ne : name ≢ e.name = λ is. none_some (sym first.0 ∙ ap (λ n. number_of n front) (sym is) ∙ stands.1) in
      apart name (stands.0, number_of-behind name e front (other_name name e.name ne) ∙ stands.1)),
)
  where
    itself : (name : Name) → bytes_eq name name ≡ true
    itself name = elim (cases_Bool (bytes_eq name name)) [ inl is ↦ is | inr isnt ↦ absurd (not_same name name isnt refl) ]

-- ---- all lists

module _ (entries : ℕ → List Named) where
  -- where a name of the first lists stands
  pub place_of : (count : ℕ) (name : Name) (n : ℕ) → number_of name (first_entries entries count) ≡ Some n → (i : ℕ) × (i < count) × (number_of name (entries i) ≡ Some n)
  place_of zero name n is = none_some is
  place_of (suc count) name n is =
      elim (stands_or_not name (entries count)) [
        | inl here ↦ (count, omega arith, here.1 ∙ sym (stands-left name (entries count) (first_entries entries count) here.0 here.1) ∙ is)
        | inr none ↦
            let p = place_of count name n (sym (stands-right name (entries count) (first_entries entries count) none) ∙ is) in
            (p.0, omega (arith, p.1), p.2)
      ]

  pub among_first : (count i : ℕ) (name : Name) → i < count → StandsIn name (entries i) → StandsIn name (first_entries entries count)
  among_first zero i name below stands = absurd (omega (arith, below))
  among_first (suc count) i name below stands =
      elim (stands_or_not name (entries count)) [
        | inl here ↦ (here.0, stands-left name (entries count) (first_entries entries count) here.0 here.1)
        | inr none ↦
            elim (cases_eq i count) [
              | inl is ↦ none_some (sym none ∙ ap (λ k. number_of name (entries k)) (sym is) ∙ stands.1)
              | inr ne ↦
                  let s = among_first count i name (omega (arith, below)) stands in
                  (s.0, stands-right name (entries count) (first_entries entries count) none ∙ s.1)
            ]
      ]

module _ (entries : ℕ → List Named) (names : NameMap) (are : AreNames entries names) where
  pub first-once : (count : ℕ) → HasEachOnce (first_entries entries count)
  first-once zero = tt
  first-once (suc count) =
      once-append (entries count) (first_entries entries count) (are.each count) (first-once count) (λ name here.
      elim (stands_or_not name (first_entries entries count)) [
        | inr none ↦ none
        | inl before ↦
            let p = place_of entries count name before.0 before.1 in
            let same : p.0 ≡ count = are.once p.0 count name before.0 here.0 p.2 here.1 in
            absurd (omega (arith, p.1, same))
      ])

  module _ (count : ℕ) (past : (i : ℕ) → count ≤ i → entries i ≡ []) where
    -- each name stands among the entries
    pub name_stands : (name : Name) (n : ℕ) → names name ≡ Some n → number_of name (first_entries entries count) ≡ Some n
    name_stands name n is =
        elim (stands_or_not name (first_entries entries count)) [
          | inl stands ↦
              let p = place_of entries count name stands.0 stands.1 in
              stands.1 ∙ sym (are.found p.0 name stands.0 p.2) ∙ is
          | inr none ↦ none_some (sym (are.only name (λ i. nowhere name none i)) ∙ is)
        ]
      where
        nowhere : (name : Name) → number_of name (first_entries entries count) ≡ None → (i : ℕ) → number_of name (entries i) ≡ None
        nowhere name none i =
            elim (stands_or_not name (entries i)) [
              | inr absent ↦ absent
              | inl stands ↦ elim (cases_lt i count) [
                | inl below ↦ let s = among_first entries count i name below stands in none_some (sym none ∙ s.1)
                | inr beyond ↦ none_some (sym (ap (number_of name) (past i beyond)) ∙ stands.1)
              ]
            ]

    pub entry_names : (name : Name) (n : ℕ) → number_of name (first_entries entries count) ≡ Some n → names name ≡ Some n
    entry_names name n is =
        let p = place_of entries count name n is in
        are.found p.0 name n p.2

    -- a directory has as many names as entries
    pub count_is : HasCount names (length (first_entries entries count))
    count_is =
        counted (λ name. IsSome (names name)) (first_entries entries count) (first-once count)
        (λ name some. let s = some_of (names name) some in (s.0, name_stands name s.0 s.1))
        (λ name stands. ap is_some (entry_names name stands.0 stands.1))
