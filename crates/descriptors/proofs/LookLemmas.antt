-- What is told of a table: which numbers are open, whether any is, and the lowest descriptor that is
-- free.
use Rattle.std.proofs.Common.{◌≡◌, ◌<◌, inl, inr, ℕ, zero, suc, if◌then◌else◌, not, Bool, true, false, Option, Some, None, is_none, is_some, IsSome, refl, sym, ap, ◌∙◌, arith}
use Rattle.std.proofs.lemmas.Bool.{cases_eq, false_from_ne_true, false≢true, or_left, or_right, or_from}
use Rattle.std.proofs.lemmas.Option.{none-some, same_Some}
use Rattle.std.specs.Option.{option_map}
use Rattle.model.specs.Outcomes.{lowest_free}
use Rattle.model.specs.Steps.{has_open_below}
use Rattle.model.specs.Trees.{Description, Tree}
use Rattle.model.specs.Volumes.{is_open}
use Rattle.model.specs.declared.limits.TheConstants.{OPEN_FILES}
use Rattle.model.proofs.SweepLemmas.{found_open, opened_by}
use Rattle.descriptors.specs.Files.{description_of}
use Rattle.descriptors.specs.Openings.{opened_file}
use Rattle.descriptors.specs.Shared.{shared_at}
use Rattle.descriptors.specs.Slots.{slot_at}
use Rattle.descriptors.specs.Tables.{open_at, table_of}
use Rattle.descriptors.specs.declared.description.OpenDescription.{OpenDescription}
use Rattle.descriptors.specs.declared.open_file.OpenFile.{OpenFile}
use Rattle.descriptors.specs.declared.shared.SharedFile.{SharedFile}
use Rattle.descriptors.specs.declared.table.Descriptors.{Descriptors}
use Rattle.descriptors.proofs.FitLemmas.{mapped}
use Rattle.descriptors.proofs.TableLemmas.{files_none, files_some, has_descriptor, kept_file}

-- ---- the lowest free descriptor

-- with one descriptor more
abbrev next_free : (ℕ → Option Description) → ℕ → Option ℕ → Option ℕ
next_free table d (Some k) = Some k
next_free table d None = if is_none (table d) then Some d else None

free_here : (d : ℕ) (f : Option Description) → f ≡ None → (if is_none f then Some d else None) ≡ Some d
free_here d None e = refl
free_here d (Some f) e = cc

open_here : (d : ℕ) (f : Option Description) → IsSome f → (if is_none f then Some d else None) ≡ None
open_here d None e = cc
open_here d (Some f) e = refl

pub lowest_is : (table : ℕ → Option Description) (count fd : ℕ) → fd < count → lowest_free table fd ≡ None → table fd ≡ None
    → lowest_free table count ≡ Some fd
lowest_is table zero fd below none free = absurd (omega (arith, below))
lowest_is table (suc d) fd below none free =
    elim (cases_eq fd d) [
      | inl last ↦
          ap (next_free table d) (ap (lowest_free table) (sym last) ∙ none) ∙ free_here d (table d) (ap table (sym last) ∙ free) ∙ ap (λ k. Some k) (sym last)
      | inr other ↦ ap (next_free table d) (lowest_is table d fd (omega (arith, below, other)) none free)
    ]

pub none_free : (table : ℕ → Option Description) (count : ℕ) → ((d : ℕ) → d < count → IsSome (table d)) → lowest_free table count ≡ None
none_free table zero opened = refl
none_free table (suc d) opened =
    ap (next_free table d) (none_free table d (λ k below. opened k (omega (arith, below)))) ∙ open_here d (table d) (opened d (omega arith))

-- ---- whether any is open

here_open : (o : Option Description) (f : Description) → o ≡ Some f → not (is_none o) ≡ true
here_open None f e = cc
here_open (Some g) f e = refl

here_free : (o : Option Description) → o ≡ None → not (is_none o) ≡ false
here_free None e = refl
here_free (Some g) e = cc

pub some_open_below : (t : Tree) (count fd : ℕ) (f : Description) → fd < count → t.descriptors fd ≡ Some f → has_open_below t count ≡ true
some_open_below t zero fd f below is = absurd (omega (arith, below))
some_open_below t (suc d) fd f below is =
    elim (cases_eq fd d) [
      | inl last ↦ or_right (has_open_below t d) (not (is_none (t.descriptors d))) (here_open (t.descriptors d) f (ap t.descriptors (sym last) ∙ is))
      | inr other ↦ or_left (has_open_below t d) (not (is_none (t.descriptors d))) (some_open_below t d fd f (omega (arith, below, other)) is)
    ]

pub none_open_below : (t : Tree) (count : ℕ) → ((fd : ℕ) → t.descriptors fd ≡ None) → has_open_below t count ≡ false
none_open_below t zero none = refl
none_open_below t (suc d) none = or_from (has_open_below t d) (not (is_none (t.descriptors d))) (none_open_below t d none) (here_free (t.descriptors d) (none d))

-- ---- of a table

module _ (t : Descriptors) where
  -- an open file by its two halves
  pub halves : (fd : ℕ) (f : OpenFile) → open_at t fd ≡ Some f → (d : OpenDescription) × (s : SharedFile) × (slot_at t.slots fd ≡ Some d) × (shared_at t.files d.number ≡ Some s) × (opened_file d s ≡ f)
  halves fd f e = from (slot_at t.slots fd) refl
    where
      from : (o : Option OpenDescription) → slot_at t.slots fd ≡ o
          → (d : OpenDescription) × (s : SharedFile) × (slot_at t.slots fd ≡ Some d) × (shared_at t.files d.number ≡ Some s) × (opened_file d s ≡ f)
      from None is = absurd (none-some f (sym (files_none (slot_at t.slots) (shared_at t.files) fd is) ∙ e))
      from (Some d) is =
          let kept = kept_file (slot_at t.slots) (shared_at t.files) t.consistent fd d is in
          (d, kept.0, is, kept.1, same_Some (opened_file d kept.0) f (sym (files_some (slot_at t.slots) (shared_at t.files) fd d kept.0 is kept.1) ∙ e))

  -- a file that is kept is open somewhere
  pub open_somewhere : (n : ℕ) (s : SharedFile) → shared_at t.files n ≡ Some s → (fd : ℕ) × (fd < OPEN_FILES) × (f : OpenFile) × (open_at t fd ≡ Some f) × (f.number ≡ n) × (f.links ≡ s.links) × (f.size ≡ s.size)
  open_somewhere n s e =
      let found = has_descriptor (slot_at t.slots) (shared_at t.files) t.consistent n s e in
      (found.0, found.1, opened_file found.2 s, files_some (slot_at t.slots) (shared_at t.files) found.0 found.2 s found.3 (ap (shared_at t.files) found.4 ∙ e), found.4, refl, refl)

  pub opened_number : (n : ℕ) → is_some (shared_at t.files n) ≡ is_open (table_of t) OPEN_FILES n
  opened_number n = from (shared_at t.files n) refl
    where
      from : (o : Option SharedFile) → shared_at t.files n ≡ o → is_some o ≡ is_open (table_of t) OPEN_FILES n
      from (Some s) is =
          let at = open_somewhere n s is in
          sym (found_open (table_of t) OPEN_FILES at.0 n (description_of at.2) at.1 (ap (option_map description_of) at.3) at.4)
      from None is =
          sym (false_from_ne_true (is_open (table_of t) OPEN_FILES n) (λ opened.
          let at = opened_by (table_of t) OPEN_FILES n opened in
          let f = mapped description_of (open_at t at.0) at.1 at.2 in
          let half = halves at.0 f.0 f.1 in
          let number : half.0.number ≡ n = ap (λ (g : OpenFile). g.number) half.4 ∙ ap (λ (g : Description). g.number) f.2 ∙ at.3 in
          none-some half.1 (sym (ap (shared_at t.files) number ∙ is) ∙ half.3)))

  pub open_some : (fd : ℕ) → IsSome (slot_at t.slots fd) → IsSome (table_of t fd)
  open_some fd opened = from (slot_at t.slots fd) refl
    where
      from : (o : Option OpenDescription) → slot_at t.slots fd ≡ o → IsSome (table_of t fd)
      from None is = absurd (false≢true (sym (ap is_some is) ∙ opened))
      from (Some d) is =
          let kept = kept_file (slot_at t.slots) (shared_at t.files) t.consistent fd d is in
          ap (λ (o : Option OpenFile). is_some (option_map description_of o)) (files_some (slot_at t.slots) (shared_at t.files) fd d kept.0 is kept.1)

  pub told_open : (b : Bool) → ((n : ℕ) → b ≡ true → shared_at t.files n ≡ None) → (b ≡ false → (n : ℕ) × IsSome (shared_at t.files n)) → (tree : Tree) → tree.descriptors ≡ table_of t
      → not b ≡ has_open_below tree OPEN_FILES
  told_open true none some tree same = sym (none_open_below tree OPEN_FILES (λ fd. ap (λ (table : ℕ → Option Description). table fd) same ∙ closed fd (open_at t fd) refl))
    where
      closed : (fd : ℕ) (o : Option OpenFile) → open_at t fd ≡ o → option_map description_of o ≡ None
      closed fd None is = refl
      closed fd (Some f) is = let half = halves fd f is in absurd (none-some half.1 (sym (none half.0.number refl) ∙ half.3))
  told_open false none some tree same =
      let n = some refl in
      let at = open_somewhere n.0 (kept (shared_at t.files n.0) n.1).0 (kept (shared_at t.files n.0) n.1).1 in
      sym (some_open_below tree OPEN_FILES at.0 (description_of at.2) at.1 (ap (λ (table : ℕ → Option Description). table at.0) same ∙ ap (option_map description_of) at.3))
    where
      kept : (o : Option SharedFile) → IsSome o → (s : SharedFile) × (o ≡ Some s)
      kept None is = absurd (false≢true is)
      kept (Some s) is = (s, refl)
