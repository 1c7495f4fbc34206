-- Calls on two files, one after the other.
use Rattle.std.proofs.Common.{inl, inr, ℕ, ◌≤◌, List, arith, sym, ◌∙◌, subst}
use Rattle.std.proofs.lemmas.Bool.{cases_lt}
use Rattle.file_station.specs.Files.{FileMeaning, FilesMeaning, AreSameFiles, LeavesFile, FileWent, FilesGo}

pub same_twice : (old mid new : FilesMeaning) → AreSameFiles old mid → AreSameFiles mid new → AreSameFiles old new
same_twice old mid new first second = record {
  disk = second.disk ∙ first.disk;
  nvram = second.nvram ∙ first.nvram;
  honest = (λ is. second.honest.0 (first.honest.0 is), λ is. first.honest.1 (second.honest.1 is));
}

-- a step of a file, and then a call that keeps it
file_then_kept : (step : List ℕ → List ℕ → Type 0) (a b c : ℕ) (x y z : FileMeaning) → a ≤ b → FileWent step a b x y → FileWent LeavesFile b c y z → FileWent step a c x z
file_then_kept step a b c x y z le first second = record {
  kept = λ t f early.
      let later : t ≤ b = omega (arith, early, le) in
      (λ left. (first.kept t f early).0 ((second.kept t f later).0 left), λ left. (second.kept t f later).1 ((first.kept t f early).1 left));
  added = λ t f late soon left. elim (cases_lt b t) [
    | inl after ↦ before f (second.added t f after soon left)
    | inr early ↦ first.added t f late early ((second.kept t f early).0 left)
  ];
  now = λ f left. before f (second.now f left);
  seen = subst (step x.seen) (sym second.seen) first.seen;
}
  where
    before : (f : List ℕ) → ((e : List ℕ) × y.left_at b e × LeavesFile e f) → (d : List ℕ) × x.left_at a d × step d f
    before f (e, left, same) = let d = first.now e left in (d.0, d.1, subst (step d.0) (sym same) d.2)

pub then_kept : (on_disk on_nvram : List ℕ → List ℕ → Type 0) (old mid new : FilesMeaning) → FilesGo on_disk on_nvram old mid → FilesGo LeavesFile LeavesFile mid new → FilesGo on_disk on_nvram old new
then_kept on_disk on_nvram old mid new one two honest =
    let first = one honest in
    let second = two first.honest in
    record {
      honest = second.honest;
      later = omega (arith, first.later, second.later);
      disk = file_then_kept on_disk old.moment mid.moment new.moment old.disk mid.disk new.disk first.later first.disk second.disk;
      nvram = file_then_kept on_nvram old.moment mid.moment new.moment old.nvram mid.nvram new.nvram first.later first.nvram second.nvram;
    }
