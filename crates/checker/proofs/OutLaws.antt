-- Faults that are found in a tree while its numbers are looked at.
use Rattle.std.proofs.Common.{◌≡◌, ◌∙◌, ℕ, List, Bool, true, false, refl, ap, sym, subst, inl, inr}
use Rattle.std.specs.Prelude.{◌⊎◌, nat_le, if◌then◌else◌, Option, Some, None}
use Rattle.layout.specs.Places.{Blocks}
use Rattle.layout.specs.declared.root.Root.{Root}
use Rattle.images.specs.Faults.{IsTreeGrammar}
use Rattle.images.specs.Soundness.{IsWithin}
use Rattle.images.specs.Roots.{HeldTree, whole}
use Rattle.checker.specs.Findings.{IsTreeFinding, fault_number, first_fault, tree_in}
use Rattle.checker.specs.Trees.{IsOut, IsSeenTo, IsTreeOf}
use Rattle.checker.specs.declared.fault.Fault.{Fault}
use Rattle.checker.specs.declared.fault.Fault.TheVariants as faults
use Rattle.checker.specs.declared.fault.TreeFault.{TreeFault}
use Rattle.checker.specs.declared.nodes.Shared.{Shared}
use Rattle.checker.specs.declared.tree.Tree.{Tree}

-- ---- the first of two faults

pick : (b : Bool) (f g : Fault) (P : Fault → Type 0) → P f → P g → P (if b then f else g)
pick true f g P left right = left
pick false f g P left right = right

pub first_found : (r : Root) (t : HeldTree) (old : Option Fault) (fault : Fault) → ((f : Fault) → old ≡ Some f → IsTreeFinding r t f) → IsTreeFinding r t fault
    → IsTreeFinding r t (first_fault old fault)
first_found r t None fault all here = here
first_found r t (Some f) fault all here = pick (nat_le (fault_number f) (fault_number fault)) f fault (IsTreeFinding r t) (all f refl) here

-- a tree with a fault of its grammar is out of it
first_out : (r : Root) (t : HeldTree) (f : Fault) (found : TreeFault) → IsTreeFinding r t f → IsOut (Some (first_fault (Some f) (faults.Tree found)))
first_out r t (faults.Roots x) found is = absurd is
first_out r t (faults.Snapshot slot block x) found is = absurd is
first_out r t (faults.Tree x) found is = tt
first_out r t (faults.Shared block first second) found is = tt
first_out r t (faults.MapBit block entry expected) found is = tt
first_out r t (faults.InodeMap number taken) found is = tt
first_out r t (faults.Directory x) found is = tt
first_out r t (faults.Links number names links) found is = tt
first_out r t (faults.Log x) found is = tt

pub added_out : (r : Root) (t : HeldTree) (old : Option Fault) (found : TreeFault) → ((f : Fault) → old ≡ Some f → IsTreeFinding r t f)
    → IsOut (Some (first_fault old (faults.Tree found)))
added_out r t None found all = tt
added_out r t (Some f) found all = first_out r t f found (all f refl)

pub out_or_not : (f : Option Fault) → IsOut f ⊎ (IsOut f → ⊥)
out_or_not None = inr (λ is. is)
out_or_not (Some (faults.Tree x)) = inl tt
out_or_not (Some (faults.Roots x)) = inr (λ is. is)
out_or_not (Some (faults.Snapshot slot block x)) = inr (λ is. is)
out_or_not (Some (faults.Shared block first second)) = inr (λ is. is)
out_or_not (Some (faults.MapBit block entry expected)) = inr (λ is. is)
out_or_not (Some (faults.InodeMap number taken)) = inr (λ is. is)
out_or_not (Some (faults.Directory x)) = inr (λ is. is)
out_or_not (Some (faults.Links number names links)) = inr (λ is. is)
out_or_not (Some (faults.Log x)) = inr (λ is. is)

-- such a tree keeps its fault
pub out_keeps : (f : Option Fault) (found : TreeFault) → IsOut f → Some (first_fault f (faults.Tree found)) ≡ f
out_keeps None found is = absurd is
out_keeps (Some (faults.Tree x)) found is = refl
out_keeps (Some (faults.Roots x)) found is = absurd is
out_keeps (Some (faults.Snapshot slot block x)) found is = absurd is
out_keeps (Some (faults.Shared block first second)) found is = absurd is
out_keeps (Some (faults.MapBit block entry expected)) found is = absurd is
out_keeps (Some (faults.InodeMap number taken)) found is = absurd is
out_keeps (Some (faults.Directory x)) found is = absurd is
out_keeps (Some (faults.Links number names links)) found is = absurd is
out_keeps (Some (faults.Log x)) found is = absurd is

-- ---- a tree with another fault

pub again : (t q : Tree) (f : Option Fault) → record t { fault = q.fault } ≡ q → q.fault ≡ f → q ≡ record t { fault = f }
again t q f same is = sym same ∙ ap (λ (g : Option Fault). record t { fault = g }) is

pub tree_again : (disk : Blocks) (r : Root) (t : Tree) (f : Option Fault) → IsTreeOf disk r t → IsTreeOf disk r (record t { fault = f })
tree_again disk r t f is = record { has = is.has; named = is.named; top = is.top; fits = is.fits; kind = is.kind; file = is.file }

module _ (disk : Blocks) (r : Root) (i n j m : ℕ) (old new : List ℕ) (before after : List (Option Shared)) (t : Tree) (is : IsSeenTo disk r i n old before t) where
  -- of a tree out of its grammar nothing more is asked
  pub seen_out : IsOut t.fault → IsSeenTo disk r j m new after t
  seen_out out = record {
    tree = is.tree;
    fault = is.fault;
    maps = λ inside. absurd (inside out);
    inodes = λ inside. absurd (inside out);
    marked = λ inside none. absurd (inside out);
    shared_is = λ inside s there. absurd (inside out);
    mapped = λ none. absurd (subst IsOut none out);
  }

  -- a tree whose grammar isn't kept
  pub seen_added : (found : TreeFault) → (IsTreeGrammar r.geometry (tree_in (whole disk r) t.plane) → IsWithin r.version (tree_in (whole disk r) t.plane) → ⊥)
      → IsSeenTo disk r j m new after (record t { fault = Some (first_fault t.fault (faults.Tree found)) })
  seen_added found broken =
      let out : IsOut (Some (first_fault t.fault (faults.Tree found))) = added_out r (tree_in (whole disk r) t.plane) t.fault found is.fault in
      let here : IsTreeFinding r (tree_in (whole disk r) t.plane) (first_fault t.fault (faults.Tree found)) =
      first_found r (tree_in (whole disk r) t.plane) t.fault (faults.Tree found) is.fault broken in
      record {
        tree = tree_again disk r t (Some (first_fault t.fault (faults.Tree found))) is.tree;
        fault = λ fault same. subst (IsTreeFinding r (tree_in (whole disk r) t.plane)) (some_is same) here;
        maps = λ inside. absurd (inside out);
        inodes = λ inside. absurd (inside out);
        marked = λ inside none. absurd (inside out);
        shared_is = λ inside s there. absurd (inside out);
        mapped = λ none. absurd (none_some none);
      }
    where
      some_is : {f g : Fault} → Some f ≡ Some g → f ≡ g
      some_is same = cc

      none_some : {f : Fault} → Some f ≡ None → ⊥
      none_some same = cc
