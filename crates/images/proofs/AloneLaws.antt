-- The volume of a root directory alone.
use Rattle.std.proofs.Common.{◌≡◌, ◌≢◌, inl, ℕ, zero, suc, true, false, eqb, List, [], ◌∷◌, fold, Option, Some, None, IsSome, IfSome, refl, ap, sym, subst, ◌∙◌, arith}
use Rattle.std.proofs.lemmas.Bool.Decides.{nat_tests}
use Rattle.model.specs.Limits.{AreLimits}
use Rattle.model.specs.declared.limits.Limits.{Limits}
use Rattle.layout.specs.DirectoryNames.{HoldNames}
use Rattle.model.specs.declared.attributes.Attributes.{Attributes}
use Rattle.model.specs.Paths.{Name, Path}
use Rattle.model.specs.Records.{without_orphans, is_vacant}
use Rattle.model.specs.States.{ForgetsOpenFiles}
use Rattle.model.specs.Trees.{root_alone}
use Rattle.model.specs.Volumes.{file_node, entries, enter, number_at, object_at, IsNode, IsVolume, tree_of}
use Rattle.model.proofs.MountLemmas.{mounts_forget}
use Rattle.model.proofs.AttributeLaws.{new_fit}
pub use Rattle.images.specs.FirstRoots.{root_alone_volume as alone}

-- ---- what the directory's file holds

pub no_names : (inodes : ℕ) (block : ℕ → List ℕ) → HoldNames inodes 0 block (λ x. None)
no_names inodes block = record {
  entries = λ i. [];
  holds = λ i lt. absurd (omega (arith, lt));
  past = λ i ge. refl;
  are = record { each = λ i. tt; once = λ i j name m n one two. absurd (cc); found = λ i name n one. absurd (cc); only = λ name none. refl };
}

-- ---- it is a volume

no_entry : (n : ℕ) (x : Name) → entries alone n x ≡ None
no_entry zero x = refl
no_entry (suc zero) x = refl
no_entry (suc (suc zero)) x = refl
no_entry (suc (suc (suc zero))) x = refl
no_entry (suc (suc (suc (suc n)))) x = refl

none_some : {A X : Type 0} {x : X} → None ≡ Some x → A
none_some e = absurd (cc)

is_root : (n : ℕ) → IsSome (alone n) → n ≡ 3
is_root zero some = absurd (cc)
is_root (suc zero) some = absurd (cc)
is_root (suc (suc zero)) some = absurd (cc)
is_root (suc (suc (suc zero))) some = refl
is_root (suc (suc (suc (suc n)))) some = absurd (cc)

no_file : (n : ℕ) (attributes : Attributes) (links : ℕ) (bytes : List ℕ) → alone n ≡ Some (file_node attributes links bytes) → ⊥
no_file zero attributes links bytes e = none_some e
no_file (suc zero) attributes links bytes e = none_some e
no_file (suc (suc zero)) attributes links bytes e = none_some e
no_file (suc (suc (suc zero))) attributes links bytes e = absurd (cc)
no_file (suc (suc (suc (suc n)))) attributes links bytes e = none_some e

good_node : (limits : Limits) (n : ℕ) → IfSome (alone n) (IsNode limits)
good_node limits zero = tt
good_node limits (suc zero) = tt
good_node limits (suc (suc zero)) = tt
good_node limits (suc (suc (suc zero))) = new_fit limits.has_attributes 0o755 (omega arith)
good_node limits (suc (suc (suc (suc n)))) = tt

some_not_none : {o : Option ℕ} → IsSome o → o ≡ None → ⊥
some_not_none some none = absurd (cc)

pub alone_volume : (limits : Limits) → AreLimits limits → IsVolume limits alone
alone_volume limits can_be = record {
  can_be = can_be;
  graph = record {
    naming = record {
      root = refl;
      not_root = λ d x e. none_some (sym (no_entry d x) ∙ e);
      used = λ d n x e. none_some (sym (no_entry d x) ∙ e);
      once = λ d k n x y e f file. none_some (sym (no_entry d x) ∙ e);
      names = λ d x some. absurd (some_not_none some (no_entry d x));
      reached = λ n some file. ([], ap Some (sym (is_root n some)));
    };
    counts = λ n attributes links bytes e. absurd (no_file n attributes links bytes e);
  };
  keeps = record {
    nodes = good_node limits;
    numbers = λ n some. inl (is_root n some);
    children = λ d. (0, λ x some. some_not_none some (no_entry d x), omega arith);
  };
}

-- ---- and its tree is that of a root directory alone

nowhere : (p : Path) → fold (enter (entries alone)) None p ≡ None
nowhere [] = refl
nowhere (x ∷ p) = nowhere p

objects_alone : (p : Path) → object_at alone (number_at (entries alone) p) ≡ (root_alone 0o755).objects p
objects_alone [] = refl
objects_alone (x ∷ p) = ap (object_at alone) (nowhere p)

test_other : (i j : ℕ) → i ≢ j → eqb i j ≡ false
test_other i j other = grind (arith, nat_tests)

attributes_alone : (n : ℕ) → (tree_of alone (λ d. None)).attributes n ≡ (root_alone 0o755).attributes n
attributes_alone zero = refl
attributes_alone (suc zero) = refl
attributes_alone (suc (suc zero)) = refl
attributes_alone (suc (suc (suc zero))) = refl
attributes_alone (suc (suc (suc (suc n)))) = let other : eqb (suc (suc (suc (suc n)))) 3 ≡ false = test_other (suc (suc (suc (suc n)))) 3 (λ e. absurd (omega (arith, e))) in rw other refl

bytes_alone : (n : ℕ) → (tree_of alone (λ d. None)).bytes n ≡ (root_alone 0o755).bytes n
bytes_alone zero = refl
bytes_alone (suc zero) = refl
bytes_alone (suc (suc zero)) = refl
bytes_alone (suc (suc (suc zero))) = refl
bytes_alone (suc (suc (suc (suc n)))) = refl

pub tree_alone : tree_of alone (λ d. None) ≡ root_alone 0o755
tree_alone = λ i. record {
  objects = λ p. objects_alone p i;
  bytes = λ n. bytes_alone n i;
  attributes = λ n. attributes_alone n i;
  descriptors = λ d. None;
}

-- a mount finds it so
pub alone_forgets : (limits : Limits) → AreLimits limits → ForgetsOpenFiles (root_alone 0o755) (tree_of (without_orphans alone) (λ d. None))
alone_forgets limits can_be = subst (λ t. ForgetsOpenFiles t (tree_of (without_orphans alone) (λ d. None))) tree_alone
    (mounts_forget limits alone alone (λ d. None) (alone_volume limits can_be) (record { kept = λ n some. refl; rest = λ n none. vacant n none }))
  where
    vacant : (n : ℕ) → alone n ≡ None → is_vacant (alone n) ≡ true
    vacant n none = ap is_vacant none
