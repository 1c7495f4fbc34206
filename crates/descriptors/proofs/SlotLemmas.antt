-- Counts of open descriptors.
use Rattle.std.proofs.Common.{◌≡◌, ◌≢◌, ◌<◌, ◌≤◌, ◌+◌, ◌*◌, ◌/◌, ◌%◌, ◌-◌, inl, inr, if◌then◌else◌, ℕ, List, [], ◌∷◌, ◌++◌, length, get_or, Bool, true, false, Option, Some, None, is_some, IsSome, sym, ap, ◌∙◌, arith}
use Rattle.std.proofs.Math.ListN.{set}
use Rattle.std.proofs.lemmas.Bool.{cases_eq, cases_lt, false≢true}
use Rattle.std.proofs.lemmas.Grind.{get_or-set_at}
use Rattle.std.proofs.lemmas.List.{get_or-set_same, get_or-set_other, get_or_past, get_or_push, get_or_append_left, length-append}
use Rattle.descriptors.specs.Openings.{open_of_chunk}
use Rattle.descriptors.specs.declared.description.OpenDescription.{OpenDescription}
use Rattle.descriptors.proofs.CountLemmas.{count_all, count_full, count_more, count_none, count_same, count_some, count_within}

-- another descriptor is open beside these
module _ (old new : ℕ → Option OpenDescription) (fd : ℕ) (others : (d : ℕ) → d ≢ fd → old d ≡ new d) where
  pub chunk_more : old fd ≡ None → IsSome (new fd) → open_of_chunk new (fd / 256) ≡ open_of_chunk old (fd / 256) + 1
  chunk_more free opened =
      let place : 256 * (fd / 256) + fd % 256 ≡ fd = omega arith in
      count_more (λ i. is_some (old (256 * (fd / 256) + i))) (λ i. is_some (new (256 * (fd / 256) + i))) (fd % 256) 256 (omega arith)
      (λ i other. ap is_some (others (256 * (fd / 256) + i) (λ same. other (omega (arith, same, place)))))
      (ap (λ d. is_some (old d)) place ∙ ap is_some free) (ap (λ d. is_some (new d)) place ∙ opened)

  pub chunk_other : (chunk : ℕ) → chunk ≢ fd / 256 → open_of_chunk new chunk ≡ open_of_chunk old chunk
  chunk_other chunk other =
      count_same (λ i. is_some (new (256 * chunk + i))) (λ i. is_some (old (256 * chunk + i))) 256
      (λ i below. ap is_some (sym (others (256 * chunk + i) (λ same. other (omega (arith, same, below))))))

pub chunk_same : (old new : ℕ → Option OpenDescription) → ((d : ℕ) → new d ≡ old d) → (chunk : ℕ) → open_of_chunk new chunk ≡ open_of_chunk old chunk
chunk_same old new same chunk = count_same (λ i. is_some (new (256 * chunk + i))) (λ i. is_some (old (256 * chunk + i))) 256 (λ i below. ap is_some (same (256 * chunk + i)))

pub chunk_full : (slots : ℕ → Option OpenDescription) (chunk fd : ℕ) → 256 ≤ open_of_chunk slots chunk → 256 * chunk ≤ fd → fd < 256 * chunk + 256 → IsSome (slots fd)
chunk_full slots chunk fd full from below =
    let place : 256 * chunk + (fd - 256 * chunk) ≡ fd = omega (arith, from) in
    ap (λ d. is_some (slots d)) (sym place) ∙ count_full (λ i. is_some (slots (256 * chunk + i))) (fd - 256 * chunk) 256 full (omega (arith, from, below))

-- ---- the counts kept beside a list of descriptors

abbrev slots_in : List (Option OpenDescription) → ℕ → Option OpenDescription
slots_in items fd = get_or items fd None

abbrev Counted : List ℕ → List (Option OpenDescription) → Type 0
Counted counts items = (chunk : ℕ) → chunk < 256 → get_or counts chunk 0 ≡ open_of_chunk (slots_in items) chunk

module _ (counts : List ℕ) (items : List (Option OpenDescription)) (fd : ℕ) (counted : Counted counts items) where
  set_others : (o : Option OpenDescription) (d : ℕ) → d ≢ fd → slots_in (set items fd o) d ≡ slots_in items d
  set_others o d other = get_or-set_other items fd d o None other

  pub count_opened : (description : OpenDescription) → length counts ≡ 256 → length items ≤ 65536 → fd < length items → slots_in items fd ≡ None
      → Counted (set counts (fd / 256) (get_or counts (fd / 256) 0 + 1)) (set items fd (Some description))
  count_opened description whole few room free chunk below =
      elim (cases_eq chunk (fd / 256)) [
        | inl here ↦
            let more = chunk_more (slots_in items) (slots_in (set items fd (Some description))) fd (λ d other. sym (set_others (Some description) d other)) free
            (ap is_some (get_or-set_same items fd (Some description) None room)) in
            get_or-set_at counts (fd / 256) chunk (get_or counts (fd / 256) 0 + 1) 0 here (omega (arith, whole, below, here))
            ∙ ap (λ (k : ℕ). k + 1) (counted (fd / 256) (omega (arith, below, here))) ∙ sym more ∙ ap (open_of_chunk (slots_in (set items fd (Some description)))) (sym here)
        | inr other ↦
            get_or-set_other counts (fd / 256) chunk (get_or counts (fd / 256) 0 + 1) 0 other ∙ counted chunk below
            ∙ sym (chunk_other (slots_in items) (slots_in (set items fd (Some description))) fd (λ d apart. sym (set_others (Some description) d apart)) chunk other)
      ]

  -- one is open in the chunk of an open descriptor
  pub count_open : length items ≤ 65536 → fd < length items → IsSome (slots_in items fd) → 1 ≤ get_or counts (fd / 256) 0
  count_open few room opened =
      let place : 256 * (fd / 256) + fd % 256 ≡ fd = omega arith in
      let some = count_some (λ i. is_some (slots_in items (256 * (fd / 256) + i))) (fd % 256) 256 (omega arith) (ap (λ d. is_some (slots_in items d)) place ∙ opened) in
      omega (arith, counted (fd / 256) (omega (arith, few, room)), some)

  pub count_closed : length counts ≡ 256 → length items ≤ 65536 → fd < length items → IsSome (slots_in items fd)
      → Counted (set counts (fd / 256) (get_or counts (fd / 256) 0 - 1)) (set items fd None)
  count_closed whole few room opened chunk below =
      elim (cases_eq chunk (fd / 256)) [
        | inl here ↦
            let less = chunk_more (slots_in (set items fd None)) (slots_in items) fd (set_others None) (get_or-set_same items fd None None room) opened in
            let was = counted (fd / 256) (omega (arith, below, here)) in
            let now : get_or counts (fd / 256) 0 - 1 ≡ open_of_chunk (slots_in (set items fd None)) (fd / 256) = omega (arith, less, was) in
            get_or-set_at counts (fd / 256) chunk (get_or counts (fd / 256) 0 - 1) 0 here (omega (arith, whole, below, here))
            ∙ now ∙ ap (open_of_chunk (slots_in (set items fd None))) (sym here)
        | inr other ↦
            get_or-set_other counts (fd / 256) chunk (get_or counts (fd / 256) 0 - 1) 0 other ∙ counted chunk below
            ∙ chunk_other (slots_in (set items fd None)) (slots_in items) fd (set_others None) chunk other
      ]

  pub count_changed : (description : OpenDescription) → fd < length items → IsSome (slots_in items fd) → Counted counts (set items fd (Some description))
  count_changed description room opened chunk below =
      counted chunk below
      ∙ count_same (λ i. is_some (slots_in items (256 * chunk + i))) (λ i. is_some (slots_in (set items fd (Some description)) (256 * chunk + i))) 256 (λ i within. at (256 * chunk + i))
    where
      at : (d : ℕ) → is_some (slots_in items d) ≡ is_some (slots_in (set items fd (Some description)) d)
      at d = elim (cases_eq d fd) [
        | inl same ↦ ap (λ k. is_some (slots_in items k)) same ∙ opened ∙ sym (ap is_some (get_or-set_at items fd d (Some description) None same room))
        | inr other ↦ ap is_some (sym (set_others (Some description) d other))
      ]

-- memory for one descriptor more opens none
pub free_more : (items : List (Option OpenDescription)) (fd : ℕ) → get_or (items ++ None ∷ []) fd None ≡ get_or items fd None
free_more items fd =
    elim (cases_lt fd (length items)) [
      | inl below ↦ get_or_append_left items (None ∷ []) None fd below
      | inr past ↦
          elim (cases_eq fd (length items)) [
            | inl last ↦ get_or_push items None None fd (sym last) ∙ sym (get_or_past items fd None past)
            | inr other ↦ get_or_past (items ++ None ∷ []) fd None (omega (arith, past, other, length-append items (None ∷ []))) ∙ sym (get_or_past items fd None past)
          ]
    ]

pub chunk_all : (slots : ℕ → Option OpenDescription) (chunk : ℕ) → open_of_chunk slots chunk < 256 → ((fd : ℕ) → 256 * chunk ≤ fd → fd < 256 * chunk + 256 → IsSome (slots fd)) → ⊥
chunk_all slots chunk some all =
    omega (arith, some, count_all (λ i. is_some (slots (256 * chunk + i))) 256 (λ i below. all (256 * chunk + i) (omega arith) (omega (arith, below))))

pub chunk_none : (slots : ℕ → Option OpenDescription) → ((fd : ℕ) → slots fd ≡ None) → (chunk : ℕ) → open_of_chunk slots chunk ≡ 0
chunk_none slots none chunk = count_none (λ i. is_some (slots (256 * chunk + i))) 256 (λ i below. ap is_some (none (256 * chunk + i)))

pub open_within : (items : List (Option OpenDescription)) (fd : ℕ) → IsSome (slots_in items fd) → fd < length items
open_within items fd opened =
    elim (cases_lt fd (length items)) [
      | inl below ↦ below
      | inr past ↦ absurd (false≢true (sym (ap is_some (get_or_past items fd None past)) ∙ opened))
    ]

pub pushed_same : (b : Bool) (old new : List (Option OpenDescription)) → new ≡ (if b then old ++ None ∷ [] else old) → (fd : ℕ) → get_or new fd None ≡ get_or old fd None
pushed_same true old new is fd = ap (λ items. get_or items fd None) is ∙ free_more old fd
pushed_same false old new is fd = ap (λ items. get_or items fd None) is

pub chunk_within : (slots : ℕ → Option OpenDescription) (chunk : ℕ) → open_of_chunk slots chunk ≤ 256
chunk_within slots chunk = count_within (λ i. is_some (slots (256 * chunk + i))) 256
