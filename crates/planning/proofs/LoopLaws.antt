-- Numbers that are planned one after the other.
use Rattle.std.proofs.Common.{◌≡◌, ◌≢◌, inl, inr, ℕ, ◌+◌, ◌<◌, ◌↔◌, Bool, true, false, List, length, slice_index, ap, sym, subst, ◌∙◌, arith}
use Rattle.std.proofs.lemmas.Bool.{cases_eq, cond-true, cond-false, eq-eqb, ne_eqb, cases_Bool}
use Rattle.std.proofs.lemmas.List.{get_or_default}
use Rattle.std.proofs.lemmas.List.Kept.{AllPairs-from_increasing}
use Rattle.std.specs.List.{Contains}
use Rattle.std.specs.List.Sorted.{IsStrictlyIncreasing}
use Rattle.std.specs.Prelude.{◌==◌, if◌then◌else◌}
use Rattle.layout.specs.Places.{Blocks}
use Rattle.layout.specs.declared.inode.Inode.{Inode}
use Rattle.conspoint.specs.Marks.{IsAmong}
use Rattle.conspoint.specs.declared.draft.Draft.{Draft}
use Rattle.inode.specs.declared.file.File.{File}
use Rattle.inofile.specs.Inodes.{files_of}
use Rattle.inofile.specs.declared.inode_file.InodeFile.{InodeFile}
use Rattle.planning.specs.Progress.{Before}
use Rattle.planning.specs.Numbers.{trimmed}
use Rattle.planning.specs.Steps.{ArePlanned, GoesOn, IsPlanUnderWay, settled_tree}

-- no number comes twice
pub not_before : (xs : List ℕ) (i n : ℕ) → IsStrictlyIncreasing xs → i < length xs → n ≡ slice_index xs i → IsAmong xs i n → ⊥
not_before xs i n rises within is at =
    let below : slice_index xs at.0 < slice_index xs i = AllPairs-from_increasing xs rises at.0 i 0 at.1 within in
    let same : slice_index xs at.0 ≡ slice_index xs i = at.2 ∙ is in absurd (omega arith)

pub among_all : (xs : List ℕ) (n : ℕ) → Contains xs n ↔ IsAmong xs (length xs) n
among_all xs n = (λ at. (at.0, at.1, get_or_default xs at.0 0 n at.1 ∙ at.2), λ at. (at.0, at.1, get_or_default xs at.0 n 0 at.1 ∙ at.2))

module _ (from : ℕ) (draft : Draft) (disk : Blocks) (settled : ℕ → Inode) (before : Before) (inodes : InodeFile) (file : File) where
  -- before the first
  pub none_before : (xs : List ℕ) → ArePlanned (λ n. ⊥) from draft disk settled before inodes file
      → ArePlanned (IsAmong xs 0) from draft disk settled before inodes file
  none_before xs start = record {
    way = start.way;
    from_is = start.from_is;
    just = λ n. (λ is. absurd ((start.just n).0 is), λ at. absurd (omega (arith, at.1)));
  }

  -- after the last
  pub all_planned : (xs : List ℕ) (i : ℕ) (IsOne : ℕ → Type 0) → length xs ≡ i → ((n : ℕ) → Contains xs n ↔ IsOne n)
      → ArePlanned (IsAmong xs i) from draft disk settled before inodes file → ArePlanned IsOne from draft disk settled before inodes file
  all_planned xs i IsOne all members now = record {
    way = now.way;
    from_is = now.from_is;
    just = λ n. (
      λ is. (members n).0 ((among_all xs n).1 (subst (λ k. IsAmong xs k n) (sym all) ((now.just n).0 is))),
      λ one. (now.just n).1 (subst (λ k. IsAmong xs k n) all ((among_all xs n).0 ((members n).1 one))),
    );
  }

  fresh : (IsOne : ℕ → Type 0) (n : ℕ) → (now : ArePlanned IsOne from draft disk settled before inodes file) → (IsOne n → ⊥) → now.way.plan.changed n ≡ false
  fresh IsOne n now none = elim (cases_Bool (now.way.plan.changed n)) [ inl is ↦ absurd (none ((now.just n).0 is)) | inr isnt ↦ isnt ]

-- one more
more_changed : (xs : List ℕ) (i n k : ℕ) (was now : Bool) → n ≡ slice_index xs i → (now ≡ (if k == n then true else was))
    → (was ≡ true) ↔ IsAmong xs i k → (now ≡ true) ↔ IsAmong xs (i + 1) k
more_changed xs i n k was now is more so_far = (there, back)
  where
    earlier : IsAmong xs (i + 1) k → k ≢ n → IsAmong xs i k
    earlier at other = elim (cases_eq at.0 i) [
      | inl last ↦ absurd (other (sym at.2 ∙ (ap (slice_index xs) last ∙ sym is)))
      | inr before ↦ (at.0, (let lt = at.1 in omega arith), at.2)
    ]

    there : now ≡ true → IsAmong xs (i + 1) k
    there one = elim (cases_eq k n) [
      | inl same ↦ (i, omega arith, sym (same ∙ is))
      | inr other ↦ (let at = so_far.0 (sym (more ∙ cond-false (k == n) true was (ne_eqb k n other)) ∙ one) in (at.0, (let lt = at.1 in omega arith), at.2))
    ]

    back : IsAmong xs (i + 1) k → now ≡ true
    back at = elim (cases_eq k n) [
      | inl same ↦ more ∙ cond-true (k == n) true was (eq-eqb k n same)
      | inr other ↦ more ∙ cond-false (k == n) true was (ne_eqb k n other) ∙ so_far.1 (earlier at other)
    ]

module _ (from : ℕ) (old new : Draft) (disk : Blocks) (settled : ℕ → Inode) (before : Before) (inodes : InodeFile) (file changed : File) (xs : List ℕ) (i n : ℕ)
    (rises : IsStrictlyIncreasing xs) (within : i < length xs) (is : n ≡ slice_index xs i)
    (now : ArePlanned (IsAmong xs i) from old disk settled before inodes file) where
  not_yet : now.way.plan.changed n ≡ false
  not_yet = fresh from old disk settled before inodes file (IsAmong xs i) n now (not_before xs i n rises within is)

  pub one_more : ((way : IsPlanUnderWay old disk before inodes.geometry (settled_tree disk settled) (λ k. trimmed (files_of disk settled inodes k)) file) → way.plan.changed n ≡ false
      → GoesOn n way.plan.changed way.plan.from new disk before inodes.geometry (settled_tree disk settled) (λ k. trimmed (files_of disk settled inodes k)) changed)
      → ArePlanned (IsAmong xs (i + 1)) from new disk settled before inodes changed
  one_more plans =
      let on = plans now.way not_yet in
      record {
        way = on.way;
        from_is = on.from_is ∙ now.from_is;
        just = λ k. more_changed xs i n k (now.way.plan.changed k) (on.way.plan.changed k) is (on.more k) (now.just k);
      }
