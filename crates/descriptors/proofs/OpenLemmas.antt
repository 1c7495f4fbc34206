-- What opening and freeing a descriptor, and a change of a file, leave of the two halves of a table.
use Rattle.std.proofs.Common.{◌≡◌, ◌≢◌, ◌⊎◌, ◌<◌, ◌≤◌, ◌+◌, ◌-◌, ◌==◌, inl, inr, if◌then◌else◌, ℕ, true, false, Option, Some, None, option_and_then, refl, sym, ap, subst, ◌∙◌, arith}
use Rattle.std.proofs.Math.Path.{fun_ext}
use Rattle.std.proofs.lemmas.Bool.{cases_eq, cond-true, cond-false, eq-eqb, ne_eqb}
use Rattle.std.proofs.lemmas.Option.{none-some, same_Some}
use Rattle.std.specs.Option.{ForSome, option_map}
use Rattle.model.specs.Trees.{Description}
use Rattle.model.specs.declared.limits.TheConstants.{GREATEST_OFFSET, OPEN_FILES}
use Rattle.descriptors.specs.Consistency.{AreConsistent}
use Rattle.descriptors.specs.Files.{description_of, refigured_file}
use Rattle.descriptors.specs.Openings.{is_for, kept_openings, less_opened, opened_file, opened_files, openings}
use Rattle.descriptors.specs.Putting.{put_open}
use Rattle.descriptors.specs.declared.description.OpenDescription.{OpenDescription}
use Rattle.descriptors.specs.declared.open_file.OpenFile.{OpenFile}
use Rattle.descriptors.specs.declared.shared.SharedFile.{SharedFile}
use Rattle.descriptors.proofs.CountLemmas.{count_none, count_same}
use Rattle.descriptors.proofs.TableLemmas.{files_none, files_some, kept_file, openings_more, openings_other, put_apart, put_here, slot_within}

-- what holds where something is put, and elsewhere, holds of each
put_each : {X : Type 0} (P : X → Type 0) (k : ℕ) (o : Option X) (t : ℕ → Option X) → ForSome o P → ((n : ℕ) → ForSome (t n) P) → (n : ℕ) → ForSome (put_open k o t n) P
put_each P k o t here others n x e =
    elim (cases_eq n k) [
      | inl same ↦ here x (sym (put_here k o t) ∙ ap (put_open k o t) (sym same) ∙ e)
      | inr apart ↦ others n x (sym (put_apart k o t n apart) ∙ e)
    ]

-- what is found comes from one of both
pub from_put : {X : Type 0} (k : ℕ) (o : Option X) (t : ℕ → Option X) (n : ℕ) (x : X) → put_open k o t n ≡ Some x → (o ≡ Some x) ⊎ (t n ≡ Some x)
from_put k o t n x e =
    elim (cases_eq n k) [
      | inl same ↦ inl (sym (put_here k o t) ∙ ap (put_open k o t) (sym same) ∙ e)
      | inr apart ↦ inr (sym (put_apart k o t n apart) ∙ e)
    ]

some_is : {X : Type 0} (P : X → Type 0) (x : X) → P x → ForSome (Some x) P
some_is {X} P x h y e = subst P (same_Some x y e) h

none_is : {X : Type 0} (P : X → Type 0) → ForSome None P
none_is P x e = cc

same_figures : (d : OpenDescription) (f g : SharedFile) → g.size ≡ f.size → g.links ≡ f.links → opened_file d g ≡ opened_file d f
same_figures d f g size links = ap (λ (k : ℕ). opened_file d (record g { size = k })) size ∙ ap (λ (k : ℕ). opened_file d (record f { links = k })) links

pub consistent_same : (slots slots' : ℕ → Option OpenDescription) (files files' : ℕ → Option SharedFile) → ((k : ℕ) → slots' k ≡ slots k) → ((n : ℕ) → files' n ≡ files n)
    → AreConsistent slots files → AreConsistent slots' files'
consistent_same slots slots' files files' same_slots same_files fine =
    subst (λ (s : ℕ → Option OpenDescription). AreConsistent s files') (fun_ext (λ k. sym (same_slots k)))
    (subst (λ (f : ℕ → Option SharedFile). AreConsistent slots f) (fun_ext (λ n. sym (same_files n))) fine)

pub opened_same : (slots slots' : ℕ → Option OpenDescription) (files files' : ℕ → Option SharedFile) → ((k : ℕ) → slots' k ≡ slots k) → ((n : ℕ) → files' n ≡ files n)
    → (k : ℕ) → opened_files slots' files' k ≡ opened_files slots files k
opened_same slots slots' files files' same_slots same_files k =
    ap (λ (s : ℕ → Option OpenDescription). opened_files s files' k) (fun_ext same_slots) ∙ ap (λ (f : ℕ → Option SharedFile). opened_files slots f k) (fun_ext same_files)

module _ (slots : ℕ → Option OpenDescription) (files : ℕ → Option SharedFile) (fine : AreConsistent slots files) where
  pub slot_free : (fd : ℕ) → opened_files slots files fd ≡ None → slots fd ≡ None
  slot_free fd none = from (slots fd) refl
    where
      from : (o : Option OpenDescription) → slots fd ≡ o → o ≡ None
      from None is = refl
      from (Some d) is =
          let kept = kept_file slots files fine fd d is in
          absurd (none-some (opened_file d kept.0) (sym none ∙ files_some slots files fd d kept.0 is kept.1))

  -- ---- a descriptor more

  module _ (fd : ℕ) (d : OpenDescription) (f : SharedFile) (below : fd < OPEN_FILES) (free : slots fd ≡ None) (more : f.openings ≡ kept_openings (files d.number) + 1) where
    abbrev slots_then : ℕ → Option OpenDescription
    slots_then = put_open fd (Some d) slots

    abbrev files_then : ℕ → Option SharedFile
    files_then = put_open d.number (Some f) files

    pub opened_consistent : d.offset ≤ GREATEST_OFFSET → f.size ≤ GREATEST_OFFSET → AreConsistent slots_then files_then
    opened_consistent offset size = record {
      bounded = λ k past. put_apart fd (Some d) slots k (λ same. absurd (omega (arith, same, past, below))) ∙ fine.bounded k past;
      counted = counted;
      used = put_each (λ (g : SharedFile). 0 < g.openings) d.number (Some f) files (some_is (λ (g : SharedFile). 0 < g.openings) f (omega (arith, more))) fine.used;
      sizes = put_each (λ (g : SharedFile). g.size ≤ GREATEST_OFFSET) d.number (Some f) files (some_is (λ (g : SharedFile). g.size ≤ GREATEST_OFFSET) f size) fine.sizes;
      offsets = put_each (λ (e : OpenDescription). e.offset ≤ GREATEST_OFFSET) fd (Some d) slots (some_is (λ (e : OpenDescription). e.offset ≤ GREATEST_OFFSET) d offset) fine.offsets;
    }
      where
        others : (k : ℕ) → k ≢ fd → slots k ≡ slots_then k
        others k apart = sym (put_apart fd (Some d) slots k apart)

        counted : (n : ℕ) → kept_openings (files_then n) ≡ openings slots_then n
        counted n =
            elim (cases_eq n d.number) [
              | inl same ↦
                  ap kept_openings (ap files_then same ∙ put_here d.number (Some f) files) ∙ more ∙ ap (λ k. k + 1) (fine.counted d.number)
                  ∙ sym (openings_more slots slots_then fd d below others free (put_here fd (Some d) slots)) ∙ ap (openings slots_then) (sym same)
              | inr apart ↦
                  ap kept_openings (put_apart d.number (Some f) files n apart) ∙ fine.counted n
                  ∙ sym (openings_other slots slots_then fd d below others free (put_here fd (Some d) slots) n apart)
            ]

    -- the files that were open, with the figures of this one
    abbrev refigured : ℕ → Option OpenFile
    refigured e = option_map (refigured_file (opened_file d f)) (opened_files slots files e)

    pub opened_files_then : (k : ℕ) → opened_files slots_then files_then k ≡ put_open fd (Some (opened_file d f)) refigured k
    opened_files_then k =
        elim (cases_eq k fd) [
          | inl same ↦
              ap (opened_files slots_then files_then) same ∙ files_some slots_then files_then fd d f (put_here fd (Some d) slots) (put_here d.number (Some f) files)
              ∙ sym (put_here fd (Some (opened_file d f)) refigured) ∙ ap (put_open fd (Some (opened_file d f)) refigured) (sym same)
          | inr apart ↦ elsewhere k apart (slots k) refl ∙ sym (put_apart fd (Some (opened_file d f)) refigured k apart)
        ]
      where
        elsewhere : (k : ℕ) → k ≢ fd → (o : Option OpenDescription) → slots k ≡ o → opened_files slots_then files_then k ≡ refigured k
        elsewhere k apart None is =
            files_none slots_then files_then k (put_apart fd (Some d) slots k apart ∙ is) ∙ sym (ap (option_map (refigured_file (opened_file d f))) (files_none slots files k is))
        elsewhere k apart (Some e) is =
            let kept = kept_file slots files fine k e is in
            let was = ap (option_map (refigured_file (opened_file d f))) (files_some slots files k e kept.0 is kept.1) in
            let slot = put_apart fd (Some d) slots k apart ∙ is in
            elim (cases_eq e.number d.number) [
              | inl same ↦
                  files_some slots_then files_then k e f slot (ap files_then same ∙ put_here d.number (Some f) files)
                  ∙ ap (λ x. Some x) (sym (cond-true (e.number == d.number) (opened_file e f) (opened_file e kept.0) (eq-eqb e.number d.number same))) ∙ sym was
              | inr other ↦
                  files_some slots_then files_then k e kept.0 slot (put_apart d.number (Some f) files e.number other ∙ kept.1)
                  ∙ ap (λ x. Some x) (sym (cond-false (e.number == d.number) (opened_file e f) (opened_file e kept.0) (ne_eqb e.number d.number other))) ∙ sym was
            ]

  -- ---- a descriptor less

  module _ (fd : ℕ) (d : OpenDescription) (f : SharedFile) (was : slots fd ≡ Some d) (file : files d.number ≡ Some f) where
    abbrev slots_left : ℕ → Option OpenDescription
    slots_left = put_open fd None slots

    abbrev files_left : ℕ → Option SharedFile
    files_left = put_open d.number (less_opened f) files

    kept_less : 0 < f.openings → kept_openings (less_opened f) + 1 ≡ f.openings
    kept_less some =
        elim (cases_eq f.openings 1) [
          | inl one ↦ ap (λ o. kept_openings o + 1) (cond-true (f.openings == 1) None (Some (record f { openings = f.openings - 1 })) (eq-eqb f.openings 1 one)) ∙ omega (arith, one)
          | inr more ↦ ap (λ o. kept_openings o + 1) (cond-false (f.openings == 1) None (Some (record f { openings = f.openings - 1 })) (ne_eqb f.openings 1 more)) ∙ omega (arith, more, some)
        ]

    -- what is left of the file
    less_is : (P : SharedFile → Type 0) → ((g : SharedFile) → g.openings + 1 ≡ f.openings → g.size ≡ f.size → g.links ≡ f.links → 0 < g.openings → P g) → 0 < f.openings → ForSome (less_opened f) P
    less_is P holds some g e =
        elim (cases_eq f.openings 1) [
          | inl one ↦
              let none = cond-true (f.openings == 1) None (Some (record f { openings = f.openings - 1 })) (eq-eqb f.openings 1 one) in
              absurd (none-some g (sym none ∙ e))
          | inr more ↦
              let left = cond-false (f.openings == 1) None (Some (record f { openings = f.openings - 1 })) (ne_eqb f.openings 1 more) in
              let same : record f { openings = f.openings - 1 } ≡ g = same_Some (record f { openings = f.openings - 1 }) g (sym left ∙ e) in
              let less : f.openings - 1 ≡ g.openings = ap (λ (x : SharedFile). x.openings) same in
              holds g (omega (arith, less, some)) (sym (ap (λ (x : SharedFile). x.size) same)) (sym (ap (λ (x : SharedFile). x.links) same)) (omega (arith, less, some, more))
        ]

    pub closed_consistent : AreConsistent slots_left files_left
    closed_consistent = record {
      bounded = λ k past. elim (cases_eq k fd) [ inl same ↦ ap slots_left same ∙ put_here fd None slots | inr apart ↦ put_apart fd None slots k apart ∙ fine.bounded k past ];
      counted = counted;
      used = put_each (λ (g : SharedFile). 0 < g.openings) d.number (less_opened f) files (less_is (λ (g : SharedFile). 0 < g.openings) (λ g less size links some. some) (fine.used d.number f file)) fine.used;
      sizes = put_each (λ (g : SharedFile). g.size ≤ GREATEST_OFFSET) d.number (less_opened f) files
          (less_is (λ (g : SharedFile). g.size ≤ GREATEST_OFFSET) (λ g less size links some. subst (λ k. k ≤ GREATEST_OFFSET) (sym size) (fine.sizes d.number f file)) (fine.used d.number f file)) fine.sizes;
      offsets = put_each (λ (e : OpenDescription). e.offset ≤ GREATEST_OFFSET) fd None slots (none_is (λ (e : OpenDescription). e.offset ≤ GREATEST_OFFSET)) fine.offsets;
    }
      where
        below : fd < OPEN_FILES
        below = slot_within slots files fine fd d was

        counted : (n : ℕ) → kept_openings (files_left n) ≡ openings slots_left n
        counted n =
            elim (cases_eq n d.number) [
              | inl same ↦
                  let more = openings_more slots_left slots fd d below (put_apart fd None slots) (put_here fd None slots) was in
                  let kept = ap kept_openings file in
                  let left = kept_less (fine.used d.number f file) in
                  let now : kept_openings (less_opened f) ≡ openings slots_left d.number = omega (arith, more, kept, left, fine.counted d.number) in
                  ap kept_openings (ap files_left same ∙ put_here d.number (less_opened f) files) ∙ now ∙ ap (openings slots_left) (sym same)
              | inr apart ↦
                  ap kept_openings (put_apart d.number (less_opened f) files n apart) ∙ fine.counted n
                  ∙ openings_other slots_left slots fd d below (put_apart fd None slots) (put_here fd None slots) was n apart
            ]

    pub closed_files_left : (k : ℕ) → opened_files slots_left files_left k ≡ put_open fd None (opened_files slots files) k
    closed_files_left k =
        elim (cases_eq k fd) [
          | inl same ↦
              ap (opened_files slots_left files_left) same ∙ files_none slots_left files_left fd (put_here fd None slots)
              ∙ sym (put_here fd None (opened_files slots files)) ∙ ap (put_open fd None (opened_files slots files)) (sym same)
          | inr apart ↦ elsewhere apart (slots k) refl ∙ sym (put_apart fd None (opened_files slots files) k apart)
        ]
      where
        elsewhere : k ≢ fd → (o : Option OpenDescription) → slots k ≡ o → opened_files slots_left files_left k ≡ opened_files slots files k
        elsewhere apart None is = files_none slots_left files_left k (put_apart fd None slots k apart ∙ is) ∙ sym (files_none slots files k is)
        elsewhere apart (Some e) is =
            let slot = put_apart fd None slots k apart ∙ is in
            let kept = kept_file slots_left files_left closed_consistent k e slot in
            elim (cases_eq e.number d.number) [
              | inl same ↦
                  let left = sym (ap files_left same ∙ put_here d.number (less_opened f) files) ∙ kept.1 in
                  files_some slots_left files_left k e kept.0 slot kept.1
                  ∙ ap (λ x. Some x) (less_is (λ (g : SharedFile). opened_file e g ≡ opened_file e f) (λ g less size links some. same_figures e f g size links) (fine.used d.number f file) kept.0 left)
                  ∙ sym (files_some slots files k e f is (ap files same ∙ file))
              | inr other ↦
                  files_some slots_left files_left k e kept.0 slot kept.1
                  ∙ sym (files_some slots files k e kept.0 is (sym (put_apart d.number (less_opened f) files e.number other) ∙ kept.1))
            ]

  -- ---- an offset moved

  pub moved_consistent : (fd : ℕ) (d e : OpenDescription) → slots fd ≡ Some d → e.number ≡ d.number → e.offset ≤ GREATEST_OFFSET → AreConsistent (put_open fd (Some e) slots) files
  moved_consistent fd d e was same offset = record {
    bounded = λ k past. put_apart fd (Some e) slots k (λ here. absurd (omega (arith, here, past, slot_within slots files fine fd d was))) ∙ fine.bounded k past;
    counted = λ n. fine.counted n ∙ openings_same n;
    used = fine.used;
    sizes = fine.sizes;
    offsets = put_each (λ (g : OpenDescription). g.offset ≤ GREATEST_OFFSET) fd (Some e) slots (some_is (λ (g : OpenDescription). g.offset ≤ GREATEST_OFFSET) e offset) fine.offsets;
  }
    where
      openings_same : (n : ℕ) → openings slots n ≡ openings (put_open fd (Some e) slots) n
      openings_same n = count_same (λ k. is_for (slots k) n) (λ k. is_for (put_open fd (Some e) slots k) n) OPEN_FILES (λ k lt. at k)
        where
          at : (k : ℕ) → is_for (slots k) n ≡ is_for (put_open fd (Some e) slots k) n
          at k = elim (cases_eq k fd) [
            | inl here ↦
                ap (λ i. is_for (slots i) n) here ∙ ap (λ o. is_for o n) was ∙ ap (λ i. i == n) (sym same)
                ∙ sym (ap (λ i. is_for (put_open fd (Some e) slots i) n) here ∙ ap (λ o. is_for o n) (put_here fd (Some e) slots))
            | inr apart ↦ ap (λ o. is_for o n) (sym (put_apart fd (Some e) slots k apart))
          ]

  pub moved_files : (fd : ℕ) (d : OpenDescription) (f : SharedFile) (place : ℕ) → slots fd ≡ Some d → files d.number ≡ Some f → (k : ℕ)
      → opened_files (put_open fd (Some (record d { offset = place })) slots) files k ≡ put_open fd (Some (record (opened_file d f) { offset = place })) (opened_files slots files) k
  moved_files fd d f place was file k =
      elim (cases_eq k fd) [
        | inl same ↦
            ap (opened_files (put_open fd (Some (record d { offset = place })) slots) files) same
            ∙ files_some (put_open fd (Some (record d { offset = place })) slots) files fd (record d { offset = place }) f (put_here fd (Some (record d { offset = place })) slots) file
            ∙ sym (put_here fd (Some (record (opened_file d f) { offset = place })) (opened_files slots files))
            ∙ ap (put_open fd (Some (record (opened_file d f) { offset = place })) (opened_files slots files)) (sym same)
        | inr apart ↦
            ap (option_and_then (λ e. option_map (opened_file e) (files e.number))) (put_apart fd (Some (record d { offset = place })) slots k apart)
            ∙ sym (put_apart fd (Some (record (opened_file d f) { offset = place })) (opened_files slots files) k apart)
      ]

  -- ---- a file changed

  module _ (n : ℕ) (h : OpenFile → OpenFile) (others : (d : OpenDescription) (f : SharedFile) → d.number ≢ n → h (opened_file d f) ≡ opened_file d f) where
    pub changed_files : (f g : SharedFile) → files n ≡ Some f → ((d : OpenDescription) → d.number ≡ n → h (opened_file d f) ≡ opened_file d g) → (k : ℕ)
        → opened_files slots (put_open n (Some g) files) k ≡ option_map h (opened_files slots files k)
    changed_files f g file here k = from (slots k) refl
      where
        from : (o : Option OpenDescription) → slots k ≡ o → opened_files slots (put_open n (Some g) files) k ≡ option_map h (opened_files slots files k)
        from None is = files_none slots (put_open n (Some g) files) k is ∙ sym (ap (option_map h) (files_none slots files k is))
        from (Some d) is =
            elim (cases_eq d.number n) [
              | inl same ↦
                  files_some slots (put_open n (Some g) files) k d g is (ap (put_open n (Some g) files) same ∙ put_here n (Some g) files)
                  ∙ ap (λ x. Some x) (sym (here d same)) ∙ sym (ap (option_map h) (files_some slots files k d f is (ap files same ∙ file)))
              | inr apart ↦
                  let kept = kept_file slots files fine k d is in
                  files_some slots (put_open n (Some g) files) k d kept.0 is (put_apart n (Some g) files d.number apart ∙ kept.1)
                  ∙ ap (λ x. Some x) (sym (others d kept.0 apart)) ∙ sym (ap (option_map h) (files_some slots files k d kept.0 is kept.1))
            ]

    pub unchanged_files : files n ≡ None → (k : ℕ) → opened_files slots files k ≡ option_map h (opened_files slots files k)
    unchanged_files none k = from (slots k) refl
      where
        from : (o : Option OpenDescription) → slots k ≡ o → opened_files slots files k ≡ option_map h (opened_files slots files k)
        from None is = files_none slots files k is ∙ sym (ap (option_map h) (files_none slots files k is))
        from (Some d) is =
            let kept = kept_file slots files fine k d is in
            let apart : d.number ≢ n = λ same. none-some kept.0 (sym none ∙ sym (ap files same) ∙ kept.1) in
            files_some slots files k d kept.0 is kept.1 ∙ ap (λ x. Some x) (sym (others d kept.0 apart)) ∙ sym (ap (option_map h) (files_some slots files k d kept.0 is kept.1))

pub none_consistent : (slots : ℕ → Option OpenDescription) (files : ℕ → Option SharedFile) → ((k : ℕ) → slots k ≡ None) → ((n : ℕ) → files n ≡ None) → AreConsistent slots files
none_consistent slots files free none = record {
  bounded = λ k past. free k;
  counted = λ n. ap kept_openings (none n) ∙ sym (count_none (λ k. is_for (slots k) n) OPEN_FILES (λ k lt. ap (λ o. is_for o n) (free k)));
  used = λ n f e. absurd (none-some f (sym (none n) ∙ e));
  sizes = λ n f e. absurd (none-some f (sym (none n) ∙ e));
  offsets = λ k d e. absurd (none-some d (sym (free k) ∙ e));
}

-- ---- the descriptors that open files stand for

pub described_put : (old new : ℕ → Option OpenFile) (fd : ℕ) (o : Option OpenFile) → ((d : ℕ) → new d ≡ put_open fd o old d) → (d : ℕ)
    → option_map description_of (new d) ≡ put_open fd (option_map description_of o) (λ e. option_map description_of (old e)) d
described_put old new fd o is d =
    elim (cases_eq d fd) [
      | inl same ↦
          ap (option_map description_of) (is d ∙ ap (put_open fd o old) same ∙ put_here fd o old)
          ∙ sym (ap (put_open fd (option_map description_of o) (λ e. option_map description_of (old e))) same ∙ put_here fd (option_map description_of o) (λ e. option_map description_of (old e)))
      | inr apart ↦ ap (option_map description_of) (is d ∙ put_apart fd o old d apart) ∙ sym (put_apart fd (option_map description_of o) (λ e. option_map description_of (old e)) d apart)
    ]

refigured_described : (file : OpenFile) (o : Option OpenFile) → option_map description_of (option_map (refigured_file file) o) ≡ option_map description_of o
refigured_described file None = refl
refigured_described file (Some f) =
    elim (f.number == file.number) as (λ b. Some (description_of (if b then record f { size = file.size; links = file.links } else f)) ≡ Some (description_of f)) [ true ↦ refl | false ↦ refl ]

pub described_opened : (old new : ℕ → Option OpenFile) (fd : ℕ) (file : OpenFile) → ((d : ℕ) → new d ≡ put_open fd (Some file) (λ e. option_map (refigured_file file) (old e)) d) → (d : ℕ)
    → option_map description_of (new d) ≡ put_open fd (Some (description_of file)) (λ e. option_map description_of (old e)) d
described_opened old new fd file is d =
    described_put (λ e. option_map (refigured_file file) (old e)) new fd (Some file) is d
    ∙ ap (λ (t : ℕ → Option Description). put_open fd (Some (description_of file)) t d) (fun_ext (λ e. refigured_described file (old e)))
