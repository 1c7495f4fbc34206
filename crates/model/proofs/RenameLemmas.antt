-- `rename` on a volume does what it does on the tree.
use Rattle.std.proofs.Common.{◌≡◌, ◌≢◌, inl, inr, ℕ, ◌≤◌, [], ◌∷◌, ◌++◌, Bool, true, false, ◌||◌, Option, Some, None, refl, sym, ap, subst, ◌∙◌}
use Rattle.model.specs.declared.limits.Limits.{Limits}
use Rattle.model.specs.declared.limits.TheConstants.{OPEN_FILES}
use Rattle.model.specs.declared.reply.Reply.{Reply}
use Rattle.model.specs.declared.reply.Reply.TheVariants.{Done}
use Rattle.model.specs.Paths.{Name, Path, IsName, behind, path_eq, Tests, first_refusal}
use Rattle.model.specs.Trees.{Tree, Object, Description, IsUsed}
use Rattle.model.specs.declared.time.Time.{Time}
use Rattle.model.specs.Touches.{Touches, touches_move}
use Rattle.model.specs.Edits.{marked, moved, number_at_path, IsSwept}
use Rattle.model.specs.Resolution.{parent}
use Rattle.model.specs.Outcomes.{Outcome, refuses, tested, either, changes_swept}
use Rattle.model.specs.Room.{Need, logs, adds_name}
use Rattle.model.specs.Changing.{is_same_file, move_tests, with_target, moves}
use Rattle.model.specs.Volumes.{Volume, entries, number_at, tree_of, is_file_node, is_directory_node, IsGraph, swept, renamed}
use Rattle.model.specs.Records.{marked_nodes}
use Rattle.model.proofs.KeptLemmas.{Kept, objects-renamed, volume-renamed, found_kept, keeps, number_at-renamed}
use Rattle.model.proofs.LeadLemmas.{parent-push}
use Rattle.model.proofs.MarkLemmas.{is_swept-marked, number_of_name, number_of_path, swept_tree-marked}
use Rattle.model.proofs.SweepLemmas.{swept_from, found_number}

tests_passed : (b : Bool) (x y : Outcome) → b ≡ false → (reply : Reply) (new : Tree) (need : Need) → y reply new need → either b x y reply new need
tests_passed true x y e reply new need done = cc
tests_passed false x y e reply new need done = done

passed_tests : (t : Tree) (tests : Tests) (rest : Outcome) → first_refusal tests ≡ None → (reply : Reply) (new : Tree) (need : Need) → rest reply new need → tested t tests rest reply new need
passed_tests t tests rest passed reply new need done =
    elim (first_refusal tests) as (λ r. r ≡ None → (elim r as (λ _. Outcome) [ Some errno ↦ refuses t errno | None ↦ rest ]) reply new need) [
      | Some errno ↦ λ e. cc
      | None ↦ λ e. done
    ] passed

module _ (v : Volume) (volume : IsGraph v) (table : ℕ → Option Description) (bounded : (d : ℕ) → OPEN_FILES ≤ d → table d ≡ None) (files : (d : ℕ) (f : Description) → table d ≡ Some f → is_file_node (v f.number) ≡ true) (u w : Path) (a b : Name) (d k n : ℕ) (at_d : number_at (entries v) u ≡ Some d) (at_k : number_at (entries v) w ≡ Some k) (there : entries v d a ≡ Some n) (d_is : is_directory_node (v d) ≡ true) (k_is : is_directory_node (v k) ≡ true) (empty : (m : ℕ) (x : Name) → entries v k b ≡ Some m → entries v m x ≡ None) (outside : behind (u ++ a ∷ []) w ≡ None) (other : u ++ a ∷ [] ≢ w ++ b ∷ []) (distinct : entries v k b ≢ Some n) (good : IsName b) where
  abbrev p : Path
  p = u ++ a ∷ []

  abbrev q : Path
  q = w ++ b ∷ []

  abbrev t : Tree
  t = tree_of v table

  abbrev new : Volume
  new = renamed d a k b v

  used_kept : (m : ℕ) → IsUsed (tree_of new table) m → Kept (v m) (new m)
  used_kept m (inl (r, o, is, same)) =
      found_kept v volume u w a b d k n at_d at_k there d_is k_is empty outside other r m
      (sym (number_at-renamed v volume u w a b d k n at_d at_k there d_is k_is empty outside other r) ∙ found_number new (number_at (entries new) r) o m is same)
  used_kept m (inr (i, f, is, same)) =
      keeps v volume u w a b d k n at_d at_k there d_is k_is empty outside other m (λ target. ap (λ j. is_file_node (v j)) (sym same) ∙ files i f is)

  pub renamed_swept : IsSwept (moved p q t) (tree_of (swept table new) table)
  renamed_swept =
      swept_from new (volume-renamed v volume u w a b d k n at_d at_k there d_is k_is empty outside other distinct good) table bounded (moved p q t)
      (objects-renamed v volume u w a b d k n at_d at_k there d_is k_is empty outside other table) refl
      (λ m used. let same = used_kept m used in (same.bytes, same.attributes))

  -- what a move touches, by paths as by names
  number_above : (r : Path) (x : Name) (j : ℕ) → number_at (entries v) r ≡ Some j → number_at_path t (parent (r ++ x ∷ [])) ≡ Some j
  number_above r x j at = ap (number_at_path t) (parent-push r x) ∙ number_of_path v volume.naming table r ∙ at

  abbrev touches : Touches
  touches = touches_move (entries v d a) (entries v k b) (Some d) (Some k)

  touches_by_paths : touches_move (number_at_path t p) (number_at_path t q) (number_at_path t (parent p)) (number_at_path t (parent q)) ≡ touches
  touches_by_paths =
      λ i. touches_move (number_of_name v volume.naming table u d a at_d i) (number_of_name v volume.naming table w k b at_k i) (number_above u a d at_d i) (number_above w b k at_k i)

  renamed_marked : (now : Option Time) → IsSwept (marked now (touches_move (number_at_path t p) (number_at_path t q) (number_at_path t (parent p)) (number_at_path t (parent q))) (moved p q t)) (tree_of (swept table (marked_nodes now touches new)) table)
  renamed_marked now =
      subst (λ (found : Touches). IsSwept (marked now found (moved p q t)) (tree_of (swept table (marked_nodes now touches new)) table)) (sym touches_by_paths)
      (subst (λ (u : Tree). IsSwept (marked now touches (moved p q t)) u) (sym (swept_tree-marked now touches new table))
      (is_swept-marked now touches (moved p q t) (tree_of (swept table new) table) renamed_swept))

  -- where its tests pass, `rename` is done by its record and a sweep
  pub rename_done : (limits : Limits) (now : Option Time) (o : Object) → (path_eq p q || is_same_file o (t.objects q)) ≡ false → first_refusal (move_tests p o q (t.objects q)) ≡ None → ((rest : Outcome) → rest Done (tree_of (swept table (marked_nodes now touches new)) table) (logs adds_name) → with_target limits t p q (t.objects q) rest Done (tree_of (swept table (marked_nodes now touches new)) table) (logs adds_name)) → moves limits now t p o q Done (tree_of (swept table (marked_nodes now touches new)) table) (logs adds_name)
  rename_done limits now o not_same passed target =
      tests_passed (path_eq p q || is_same_file o (t.objects q)) _ _ not_same Done (tree_of (swept table (marked_nodes now touches new)) table) (logs adds_name)
      (passed_tests t (move_tests p o q (t.objects q)) _ passed Done (tree_of (swept table (marked_nodes now touches new)) table) (logs adds_name)
      (target (changes_swept Done (marked now (touches_move (number_at_path t p) (number_at_path t q) (number_at_path t (parent p)) (number_at_path t (parent q))) (moved p q t)) (logs adds_name)) (refl, renamed_marked now, refl)))
