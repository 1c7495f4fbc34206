-- The trees after one name was made or taken away.
use Rattle.std.proofs.Common.{◌≡◌, ◌≢◌, inl, inr, ℕ, [], ◌∷◌, ◌++◌, true, Option, Some, None, refl, sym, ap, subst, ◌∙◌}
use Rattle.std.proofs.Math.Path.{fun_ext}
use Rattle.std.proofs.lemmas.Bool.{cases_Bool, cases_eq, cond-true, cond-false, false≢true}
use Rattle.model.specs.Paths.{Name, Path, path_eq}
use Rattle.model.specs.Trees.{Description}
use Rattle.model.specs.Edits.{put_at}
use Rattle.model.specs.Volumes.{Node, directory_node, file_node, link_node, Volume, names_in, entries, enter, number_at, object_of, object_at, tree_of, with_node, with_edge, is_file_node, is_directory_node, IsGraph, with_name_more, released, created, linked, unnamed}
use Rattle.model.proofs.WalkLemmas.{number_at-push, number_at-put, edge_other, path_eq-same}
use Rattle.model.proofs.VolumeLemmas.{ends, alone, directory_no_file, last_step}
use Rattle.model.proofs.KeptLemmas.{Kept, kept, kept_through, entry_keeps, released_keeps, entries-entry, entries-released, node-here}
use Rattle.model.proofs.ObjectLaws.{node_other}

-- The name b of the directory k at w leads to `to` now, which has no names; it led to nothing, or to what has none. But
-- for what stands at that name alone, the objects are as they were.
module _ (v new : Volume) (volume : IsGraph v) (w : Path) (b : Name) (k : ℕ) (to : Option ℕ) (at_k : number_at (entries v) w ≡ Some k) (k_is : is_directory_node (v k) ≡ true) (edges : entries new ≡ with_edge k b to (entries v)) (bare : (m : ℕ) (x : Name) → entries v k b ≡ Some m → entries v m x ≡ None) (leaf : (m : ℕ) (x : Name) → to ≡ Some m → entries new m x ≡ None) (same : (r : Path) (j : ℕ) → r ≢ w ++ b ∷ [] → number_at (entries v) r ≡ Some j → object_of j (new j) ≡ object_of j (v j)) where
  abbrev q : Path
  q = w ++ b ∷ []

  pub at_place : number_at (entries v) q ≡ entries v k b
  at_place = number_at-push (entries v) w b ∙ ap (λ o. enter (entries v) o b) at_k

  nothing_below : (o : Option ℕ) → entries v k b ≡ o → (x : Name) → enter (entries v) o x ≡ None
  nothing_below None is x = refl
  nothing_below (Some m) is x = bare m x is

  no_names : (o : Option ℕ) → to ≡ o → (x : Name) → enter (entries new) o x ≡ None
  no_names None is x = refl
  no_names (Some m) is x = leaf m x is

  pub walks : (r : Path) → number_at (entries new) r ≡ put_at q to (number_at (entries v)) r
  walks r =
      ap (λ e. number_at e r) edges
      ∙ number_at-put (entries v) w b k to at_k (λ s is. alone v volume s w k is at_k (directory_no_file (v k) k_is)) (λ x. number_at-push (entries v) q x ∙ ap (λ o. enter (entries v) o x) at_place ∙ nothing_below (entries v k b) refl x) (λ x. ap (λ e. enter e to x) (sym edges) ∙ no_names to refl x) r

  object_same : (r : Path) (o : Option ℕ) → r ≢ q → number_at (entries v) r ≡ o → object_at new o ≡ object_at v o
  object_same r None other is = refl
  object_same r (Some j) other is = same r j other is

  objects_put : (r : Path) → object_at new (number_at (entries new) r) ≡ put_at q (object_at new to) (λ r. object_at v (number_at (entries v) r)) r
  objects_put r =
      ap (object_at new) (walks r)
      ∙ elim (cases_Bool (path_eq r q)) [
        | inl t ↦ ap (object_at new) (cond-true (path_eq r q) to (number_at (entries v) r) t) ∙ sym (cond-true (path_eq r q) (object_at new to) (object_at v (number_at (entries v) r)) t)
        | inr f ↦ ap (object_at new) (cond-false (path_eq r q) to (number_at (entries v) r) f)
            ∙ object_same r (number_at (entries v) r) (λ is. false≢true (sym f ∙ subst (λ s. path_eq r s ≡ true) is (path_eq-same r))) refl
            ∙ sym (cond-false (path_eq r q) (object_at new to) (object_at v (number_at (entries v) r)) f)
      ]

  pub objects-put : (table : ℕ → Option Description) → (tree_of new table).objects ≡ put_at q (object_at new to) (tree_of v table).objects
  objects-put table = fun_ext objects_put

pub file_no_names : (o : Option Node) → is_file_node o ≡ true → (x : Name) → names_in o x ≡ None
file_no_names None e x = refl
file_no_names (Some (directory_node attributes names)) e x = cc
file_no_names (Some (file_node attributes links bytes)) e x = refl
file_no_names (Some (link_node attributes text)) e x = refl

pub more_keeps : (o : Option Node) → Kept o (with_name_more o)
more_keeps None = kept None
more_keeps (Some (directory_node attributes names)) = kept (Some (directory_node attributes names))
more_keeps (Some (file_node attributes links bytes)) = record { object = λ n. refl; bytes = refl; attributes = refl; directory = refl; file = refl; some = refl }
more_keeps (Some (link_node attributes text)) = kept (Some (link_node attributes text))

pub more_names : (o : Option Node) (x : Name) → names_in (with_name_more o) x ≡ names_in o x
more_names None x = refl
more_names (Some (directory_node attributes names)) x = refl
more_names (Some (file_node attributes links bytes)) x = refl
more_names (Some (link_node attributes text)) x = refl

-- an object without names in place of one without names leaves the entries
pub entries-node : (n : ℕ) (o : Option Node) (v : Volume) → ((x : Name) → names_in o x ≡ names_in (v n) x) → entries (with_node n o v) ≡ entries v
entries-node n o v same =
    fun_ext (λ k. fun_ext (λ x.
    elim (cases_eq k n) [
      | inl is ↦ ap (λ j. names_in (with_node n o v j) x) is ∙ ap (λ m. names_in m x) (node-here n o v) ∙ same x ∙ ap (λ j. names_in (v j) x) (sym is)
      | inr other ↦ ap (λ m. names_in m x) (node_other n k o v other)
    ]))

module _ (v : Volume) (volume : IsGraph v) (w : Path) (b : Name) (k : ℕ) (table : ℕ → Option Description) (at_k : number_at (entries v) w ≡ Some k) (k_is : is_directory_node (v k) ≡ true) where
  -- a name is taken away: of a file, or the only one of an object without names
  pub objects-unnamed : (n : ℕ) → entries v k b ≡ Some n → ((x : Name) → entries v n x ≡ None) → (tree_of (unnamed k b v) table).objects ≡ put_at (w ++ b ∷ []) None (tree_of v table).objects
  objects-unnamed n there bare =
      let empty : (m : ℕ) (x : Name) → entries v k b ≡ Some m → entries v m x ≡ None = λ m x is. let same : m ≡ n = cc in subst (λ j. entries v j x ≡ None) (sym same) (bare x) in
      let stays : is_directory_node (released (entries v k b) v k) ≡ true = (released_keeps (entries v k b) v k (λ is. let none : None ≡ Some k = sym (empty k b is) ∙ is in cc)).directory ∙ k_is in
      objects-put v (unnamed k b v) volume w b k None at_k k_is
      (entries-entry k b None (released (entries v k b) v) stays ∙ ap (with_edge k b None) (entries-released (entries v k b) v empty)) empty (λ m x is. cc)
      (λ r j other at_r.
      (kept_through (v j) (released (entries v k b) v j) (unnamed k b v j)
      (released_keeps (entries v k b) v j (λ is. elim (cases_Bool (is_file_node (v j))) [
        | inl a_file ↦ a_file
        | inr no_file ↦ absurd (other (alone v volume r (w ++ b ∷ []) j at_r (number_at-push (entries v) w b ∙ ap (λ o. enter (entries v) o b) at_k ∙ is) no_file))
      ])) (entry_keeps k b None (released (entries v k b) v) j)).object j)
      table

  -- a file has one more name
  pub objects-linked : (n : ℕ) → entries v k b ≡ None → is_file_node (v n) ≡ true → (tree_of (linked n k b v) table).objects ≡ put_at (w ++ b ∷ []) (object_of n (v n)) (tree_of v table).objects
  objects-linked n free a_file =
      let more : Volume = with_node n (with_name_more (v n)) v in
      let keeps : (j : ℕ) → Kept (v j) (more j) = λ j. elim (cases_eq j n) [
        | inl is ↦ subst (λ i. Kept (v i) (more i)) (sym is) (subst (Kept (v n)) (sym (node-here n (with_name_more (v n)) v)) (more_keeps (v n)))
        | inr other ↦ subst (Kept (v j)) (sym (node_other n j (with_name_more (v n)) v other)) (kept (v j))
      ] in
      let all : (j : ℕ) → Kept (v j) (linked n k b v j) = λ j. kept_through (v j) (more j) (linked n k b v j) (keeps j) (entry_keeps k b (Some n) more j) in
      let edges : entries (linked n k b v) ≡ with_edge k b (Some n) (entries v) = entries-entry k b (Some n) more ((keeps k).directory ∙ k_is) ∙ ap (with_edge k b (Some n)) (entries-node n (with_name_more (v n)) v (more_names (v n))) in
      objects-put v (linked n k b v) volume w b k (Some n) at_k k_is edges (λ m x is. let none : None ≡ Some m = sym free ∙ is in cc) (λ m x is. let same : n ≡ m = cc in file_no_names (linked n k b v m) (subst (λ j. is_file_node (linked n k b v j) ≡ true) same ((all n).file ∙ a_file)) x) (λ r j other at_r. (all j).object j) table
      ∙ ap (λ o. put_at (w ++ b ∷ []) o (tree_of v table).objects) ((all n).object n)

  not_there : (n : ℕ) → ((d : ℕ) (x : Name) → entries v d x ≢ Some n) → n ≢ 3 → (r : Path) → number_at (entries v) r ≢ Some n
  not_there n fresh no_root r at_r =
      elim (ends r) [
        | inl e ↦ let three : Some 3 ≡ Some n = ap (number_at (entries v)) (sym e) ∙ at_r in no_root (cc)
        | inr (u, x, e) ↦ let last = last_step (entries v) u x n (ap (number_at (entries v)) (sym e) ∙ at_r) in fresh last.0 x last.2
      ]

  -- A new object without names, with a number that nothing leads to. A directory for the new name keeps its place.
  pub objects-created : (n : ℕ) (node : Node) → entries v k b ≡ None → n ≢ k → ((x : Name) → entries v n x ≡ None) → ((x : Name) → names_in (Some node) x ≡ None) → ((d : ℕ) (x : Name) → entries v d x ≢ Some n) → n ≢ 3 → (tree_of (created n k b node v) table).objects ≡ put_at (w ++ b ∷ []) (object_of n (Some node)) (tree_of v table).objects
  objects-created n node free apart bare leaf fresh no_root =
      let more : Volume = with_node n (Some node) v in
      let stays : is_directory_node (more k) ≡ true = ap is_directory_node (node_other n k (Some node) v (λ e. apart (sym e))) ∙ k_is in
      let edges : entries (created n k b node v) ≡ with_edge k b (Some n) (entries v) = entries-entry k b (Some n) more stays ∙ ap (with_edge k b (Some n)) (entries-node n (Some node) v (λ x. leaf x ∙ sym (bare x))) in
      objects-put v (created n k b node v) volume w b k (Some n) at_k k_is edges (λ m x is. let none : None ≡ Some m = sym free ∙ is in cc)
      (λ m x is. let same : n ≡ m = cc in subst (λ j. entries (created n k b node v) j x ≡ None) same (ap (λ e. e n x) edges ∙ edge_other k n b x (Some n) (entries v) (λ e. absurd (apart e)) ∙ bare x))
      (λ r j other at_r. (entry_keeps k b (Some n) more j).object j ∙ ap (object_of j) (node_other n j (Some node) v (λ e. not_there n fresh no_root r (at_r ∙ ap (λ i. Some i) e)))) table
      ∙ ap (λ o. put_at (w ++ b ∷ []) o (tree_of v table).objects) ((entry_keeps k b (Some n) more n).object n ∙ ap (object_of n) (node-here n (Some node) v))
