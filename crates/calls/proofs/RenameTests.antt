-- What lies below an object that moves, as the trail of the new path tells.
use Rattle.std.proofs.Common.{◌≡◌, ℕ, ◌+◌, ◌-◌, List, [], ◌∷◌, IsTrue, Option, Some, None, length, take, drop, get_or, fold, refl, sym, ap, subst, ◌∙◌, length-take, arith}
use Rattle.std.specs.List.{Contains}
use Rattle.std.proofs.lemmas.Grind.{get_or_default_zero}
use Rattle.std.proofs.lemmas.List.{get_or-take, take-append-drop}
use Rattle.std.proofs.lemmas.List.Sums.{fold-append}
use Rattle.model.specs.Finding.{Trails, here}
use Rattle.model.specs.Paths.{Path}
use Rattle.model.specs.Records.{IsBelow}
use Rattle.model.specs.Volumes.{Volume, enter, entries, is_directory_node, number_at}
use Rattle.model.proofs.OptionLaws.{none_some, some_same}
use Rattle.model.proofs.VolumeLemmas.{enters_directory}
use Rattle.model.specs.declared.limits.TheConstants.{ROOT_NUMBER}
use Rattle.paths.specs.Numbers.{AreInodeNumbers, IsInodeNumber}
use Rattle.calls.proofs.LeadLaws.{trail_end}

-- the directory at the end of a trail has a number, where anything has
pub here_number : (inodes : ℕ) (trail : List ℕ) (n : ℕ) → IsInodeNumber inodes n → AreInodeNumbers inodes trail → IsInodeNumber inodes (here trail)
here_number inodes [] n is are = (omega arith, omega (arith, is.0, is.1))
here_number inodes (m ∷ trail) n is are = are (length (m ∷ trail) - 1) ROOT_NUMBER (omega arith)

-- what has a directory below it is one itself
pub above_directory : (v : Volume) (n k : ℕ) (p : Path) → fold (enter (entries v)) (Some n) p ≡ Some k → IsTrue (is_directory_node (v k)) → IsTrue (is_directory_node (v n))
above_directory v n k [] is directory = subst (λ (m : ℕ). IsTrue (is_directory_node (v m))) (sym (some_same is)) directory
above_directory v n k (x ∷ p) is directory = by (entries v n x) refl is
  where
    nowhere : (p : Path) → fold (enter (entries v)) None p ≡ None
    nowhere [] = refl
    nowhere (y ∷ p) = nowhere p

    by : (o : Option ℕ) → entries v n x ≡ o → fold (enter (entries v)) o p ≡ Some k → IsTrue (is_directory_node (v n))
    by None at walk = none_some (sym (nowhere p) ∙ walk)
    by (Some m) at walk = enters_directory (v n) x m at

-- what lies on a trail has the directory at its end below it
pub below_trail : (v : Volume) (w : Path) (trail : List ℕ) (n : ℕ) → Trails (entries v) w trail → Contains trail n → IsBelow (entries v) n (here trail)
below_trail v w trail n trails (i, within, is) =
    let e = entries v in
    let last : here (take (i + 1) trail) ≡ n =
    ap (λ (j : ℕ). get_or (take (i + 1) trail) j ROOT_NUMBER) (omega (arith, length-take (i + 1) trail, within))
    ∙ get_or-take (i + 1) trail i ROOT_NUMBER (omega arith)
    ∙ get_or_default_zero trail i ROOT_NUMBER within ∙ sym (get_or_default_zero trail i n within)
    ∙ is in
    let at : number_at e (take (i + 1) w) ≡ Some n = trails.each (i + 1) (omega (arith, trails.size, within)) ∙ ap (λ (m : ℕ). Some m) last in
    let rest = drop (i + 1) w in (
      rest,
      ap (λ (o : Option ℕ). fold (enter e) o rest) (sym at)
          ∙ sym (fold-append (enter e) (Some ROOT_NUMBER) (take (i + 1) w) rest)
          ∙ ap (number_at e) (take-append-drop (i + 1) w)
          ∙ trail_end v w trail trails,
    )
