-- The tree of a new file system, and a tree with no snapshots beside it.
use Rattle.std.proofs.Common.{◌≡◌, inl, inr, ℕ, ◌==◌, List, [], ◌∷◌, ◌++◌, arith, Some, None, IsSome, is_some, IfSome, All, refl, sym, ap, subst, ◌∙◌, lit≤}
use Rattle.std.proofs.lemmas.Bool.{cases_Bool, cond_both, cond-true, cond-false, false≢true, eq-eqb, eqb-true}
use Rattle.std.proofs.lemmas.List.Elements.{All-nil}
use Rattle.model.specs.declared.limits.Limits.{Limits}
use Rattle.model.specs.Attributes.{FitAttributes, mode_alone, new_attributes}
use Rattle.model.specs.Limits.{AreLimits}
use Rattle.model.specs.Paths.{Name, Path, IsName, path_eq}
use Rattle.model.specs.Trees.{Tree, Object, directory, symlink, file, number_of_object, IsTree, root_alone}
use Rattle.model.specs.States.{Mark, IsState, IsFrozen, IsShortName}
use Rattle.model.specs.Sessions.{IsSession, new_session}
use Rattle.model.proofs.AttributeLaws.{epoch_is, new_fit}
use Rattle.model.proofs.WalkLemmas.{same_path}
use Rattle.model.proofs.OptionLaws.{none_some, some_same}
use Rattle.model.proofs.ObjectLaws.{directory_file}

directory_symlink : {Y : Type 0} {m n : ℕ} {text : List ℕ} → directory m ≡ symlink n text → Y
directory_symlink e = cc

-- what stands in the tree of a root directory alone
module _ (mode : ℕ) where
  root_at : (p : Path) (o : Object) → (root_alone mode).objects p ≡ Some o → (p ≡ []) × (o ≡ directory 3)
  root_at p o is =
      elim (cases_Bool (path_eq p [])) [
        | inl e ↦ (same_path p [] e, some_same (sym is ∙ cond-true (path_eq p []) (Some (directory 3)) None e))
        | inr e ↦ none_some (sym (cond-false (path_eq p []) (Some (directory 3)) None e) ∙ is)
      ]

  root_some : (p : Path) → IsSome ((root_alone mode).objects p) → p ≡ []
  root_some p some =
      elim (cases_Bool (path_eq p [])) [
        | inl e ↦ same_path p [] e
        | inr e ↦ absurd (false≢true (sym (ap is_some (cond-false (path_eq p []) (Some (directory 3)) None e)) ∙ some))
      ]

append_empty : (p q : Path) → p ++ q ≡ [] → q ≡ []
append_empty [] q e = e
append_empty (x ∷ p) q e = cc

last_some : (x : Name) (rest : Path) → x ∷ rest ≡ [] → ⊥
last_some x rest e = cc

pub root_is_tree : (limits : Limits) → AreLimits limits → IsTree limits (root_alone 0o755)
root_is_tree limits can_be = record {
  can_be = can_be;
  root = refl;
  above = λ p q longer some. absurd (longer (append_empty p q (root_some 0o755 (p ++ q) some)));
  names = λ p some. subst (All IsName) (sym (root_some 0o755 p some)) (All-nil IsName);
  single = λ p q o r at_p at_q same. inl ((root_at 0o755 p o at_p).0 ∙ sym (root_at 0o755 q r at_q).0);
  bytes = λ n. (λ some. absurd (false≢true some), λ stands. elim stands [ inl there ↦ directory_file (sym (root_at 0o755 there.0 (file n) there.1).1) | inr open_file ↦ none_some open_file.2 ]);
  attributes = λ n. (
    λ some. elim (cases_Bool (n == 3)) [
      | inl e ↦ inl ([], directory 3, refl, sym (eqb-true n 3 e))
      | inr e ↦ absurd (false≢true (sym (ap is_some (cond-false (n == 3) (Some (new_attributes (mode_alone 0o755))) None e)) ∙ some))
    ],
    λ used. elim used [
      | inl there ↦ ap is_some (cond-true (n == 3) (Some (new_attributes (mode_alone 0o755))) None (eq-eqb n 3 (sym there.3 ∙ ap number_of_object (root_at 0o755 there.0 there.1 there.2).1)))
      | inr open_file ↦ none_some open_file.2
    ],
  );
  opened = λ n p o open_file at_p same. none_some open_file.2;
  numbers = λ n used. elim used [ inl there ↦ inl (sym there.3 ∙ ap number_of_object (root_at 0o755 there.0 there.1 there.2).1) | inr open_file ↦ none_some open_file.2 ];
  texts = λ p n text is. directory_symlink (sym (root_at 0o755 p (symlink n text) is).1);
  children = λ p is. (0, (λ name some. last_some name [] (append_empty p (name ∷ []) (root_some 0o755 (p ++ name ∷ []) some))), omega arith);
  links = λ n. (0, (λ p is. directory_file (sym (root_at 0o755 p (file n) is).1)), omega arith);
  sizes = λ n. tt;
  fit = λ n. cond_both (n == 3) (Some (new_attributes (mode_alone 0o755))) None (λ o. IfSome o (FitAttributes limits.has_attributes)) (λ e. new_fit limits.has_attributes 0o755 (lit≤ tt)) (λ e. tt);
  table = λ d past. refl;
  offsets = λ d f is. none_some is;
}

pub new_is_session : IsSession new_session
new_is_session = record { time = epoch_is; owner = omega arith; group = omega arith }

-- a tree without snapshots beside it
pub tree_is_state : (limits : Limits) (t : Tree) (mark : Mark) → IsTree limits t → IsState (record { limits = limits; tree = t; snapshots = []; mark = mark; session = new_session })
tree_is_state limits t mark tree = record {
  tree = tree;
  frozen = All-nil (λ pair. IsFrozen limits pair.1);
  names = All-nil (λ pair. IsShortName pair.0);
  few = omega arith;
  once = λ i j x less below. absurd (omega arith);
  session = new_is_session;
}
