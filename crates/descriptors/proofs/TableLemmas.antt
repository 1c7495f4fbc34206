-- The two halves of a table: what each descriptor is open by, and the files by their numbers.
use Rattle.std.proofs.Common.{◌≡◌, ◌≢◌, ◌<◌, ◌≤◌, ◌+◌, ◌==◌, inl, inr, ℕ, true, Option, Some, None, refl, sym, ap, ◌∙◌, arith}
use Rattle.std.proofs.lemmas.Bool.{cases_eq, cases_lt, cond-true, cond-false, eq-eqb, eqb-true, ne_eqb}
use Rattle.model.specs.declared.limits.TheConstants.{OPEN_FILES}
use Rattle.descriptors.specs.Consistency.{AreConsistent}
use Rattle.descriptors.specs.Openings.{is_for, kept_openings, opened_file, opened_files, openings}
use Rattle.descriptors.specs.Putting.{put_open}
use Rattle.descriptors.specs.declared.description.OpenDescription.{OpenDescription}
use Rattle.descriptors.specs.declared.shared.SharedFile.{SharedFile}
use Rattle.descriptors.proofs.CountLemmas.{count_found, count_more, count_same, count_some, count_within}

pub put_here : {X : Type 0} (fd : ℕ) (o : Option X) (t : ℕ → Option X) → put_open fd o t fd ≡ o
put_here fd o t = cond-true (fd == fd) o (t fd) (eq-eqb fd fd refl)

pub put_apart : {X : Type 0} (fd : ℕ) (o : Option X) (t : ℕ → Option X) (d : ℕ) → d ≢ fd → put_open fd o t d ≡ t d
put_apart fd o t d other = cond-false (d == fd) o (t d) (ne_eqb d fd other)

-- ---- how many descriptors are open for a number

is_for_some : (o : Option OpenDescription) (n : ℕ) → is_for o n ≡ true → (d : OpenDescription) × (o ≡ Some d) × (d.number ≡ n)
is_for_some None n e = cc
is_for_some (Some d) n e = (d, refl, eqb-true d.number n e)

pub is_for_here : (slots : ℕ → Option OpenDescription) (fd : ℕ) (d : OpenDescription) → slots fd ≡ Some d → is_for (slots fd) d.number ≡ true
is_for_here slots fd d e = ap (λ o. is_for o d.number) e ∙ eq-eqb d.number d.number refl

module _ (old new : ℕ → Option OpenDescription) (fd : ℕ) (d : OpenDescription) (below : fd < OPEN_FILES) (others : (k : ℕ) → k ≢ fd → old k ≡ new k) (free : old fd ≡ None) (opened : new fd ≡ Some d) where
  pub openings_more : openings new d.number ≡ openings old d.number + 1
  openings_more =
      count_more (λ k. is_for (old k) d.number) (λ k. is_for (new k) d.number) fd OPEN_FILES below
      (λ k other. ap (λ o. is_for o d.number) (others k other)) (ap (λ o. is_for o d.number) free) (is_for_here new fd d opened)

  pub openings_other : (n : ℕ) → n ≢ d.number → openings new n ≡ openings old n
  openings_other n other = count_same (λ k. is_for (new k) n) (λ k. is_for (old k) n) OPEN_FILES (λ k lt. at k)
    where
      at : (k : ℕ) → is_for (new k) n ≡ is_for (old k) n
      at k = elim (cases_eq k fd) [
        | inl here ↦
            ap (λ i. is_for (new i) n) here ∙ ap (λ o. is_for o n) opened ∙ ne_eqb d.number n (λ same. other (sym same))
            ∙ sym (ap (λ i. is_for (old i) n) here ∙ ap (λ o. is_for o n) free)
        | inr apart ↦ ap (λ o. is_for o n) (sym (others k apart))
      ]

pub openings_within : (slots : ℕ → Option OpenDescription) (n : ℕ) → openings slots n ≤ OPEN_FILES
openings_within slots n = count_within (λ k. is_for (slots k) n) OPEN_FILES

-- ---- what is consistent

module _ (slots : ℕ → Option OpenDescription) (files : ℕ → Option SharedFile) (fine : AreConsistent slots files) where
  pub slot_within : (fd : ℕ) (d : OpenDescription) → slots fd ≡ Some d → fd < OPEN_FILES
  slot_within fd d e =
      elim (cases_lt fd OPEN_FILES) [
        | inl below ↦ below
        | inr past ↦ let none = fine.bounded fd past in cc
      ]

  counted_none : (n : ℕ) → files n ≡ None → openings slots n ≡ 0
  counted_none n e = sym (fine.counted n) ∙ ap kept_openings e

  counted_some : (n : ℕ) (f : SharedFile) → files n ≡ Some f → openings slots n ≡ f.openings
  counted_some n f e = sym (fine.counted n) ∙ ap kept_openings e

  -- the file of an open descriptor is kept
  pub kept_file : (fd : ℕ) (d : OpenDescription) → slots fd ≡ Some d → (f : SharedFile) × (files d.number ≡ Some f)
  kept_file fd d e = from (files d.number) refl
    where
      from : (o : Option SharedFile) → files d.number ≡ o → (f : SharedFile) × (files d.number ≡ Some f)
      from (Some f) is = (f, is)
      from None is =
          let some = count_some (λ k. is_for (slots k) d.number) fd OPEN_FILES (slot_within fd d e) (is_for_here slots fd d e) in
          absurd (omega (arith, some, counted_none d.number is))

  -- a file that is kept has a descriptor
  pub has_descriptor : (n : ℕ) (f : SharedFile) → files n ≡ Some f → (fd : ℕ) × (fd < OPEN_FILES) × (d : OpenDescription) × (slots fd ≡ Some d) × (d.number ≡ n)
  has_descriptor n f e =
      let found = count_found (λ k. is_for (slots k) n) OPEN_FILES (omega (arith, fine.used n f e, counted_some n f e)) in
      let open_for = is_for_some (slots found.0) n found.2 in
      (found.0, found.1, open_for.0, open_for.1, open_for.2)

-- ---- the open files

module _ (slots : ℕ → Option OpenDescription) (files : ℕ → Option SharedFile) where
  pub files_some : (fd : ℕ) (d : OpenDescription) (f : SharedFile) → slots fd ≡ Some d → files d.number ≡ Some f → opened_files slots files fd ≡ Some (opened_file d f)
  files_some fd d f slot file = cc

  pub files_none : (fd : ℕ) → slots fd ≡ None → opened_files slots files fd ≡ None
  files_none fd slot = cc
