-- A volume stays one where a name is added, and where an object changes but for names and links.
use Rattle.std.proofs.Common.{◌≡◌, ◌≢◌, ◌⊎◌, inl, inr, ℕ, zero, suc, ◌+◌, List, [], ◌∷◌, ◌++◌, Bool, true, false, Option, Some, None, is_some, IsSome, refl, sym, ap, subst, ◌∙◌, arith}
use Rattle.std.proofs.Math.Path.{fun_ext}
use Rattle.std.proofs.lemmas.Bool.{cases_eq, cond-true, cond-false, false≢true, false_from_ne_true}
use Rattle.model.specs.declared.limits.TheConstants.{OPEN_FILES}
use Rattle.model.specs.declared.attributes.Attributes.{Attributes}
use Rattle.model.specs.Paths.{Name, Path, IsName, path_eq}
use Rattle.model.specs.Trees.{Description}
use Rattle.model.specs.Volumes.{Node, directory_node, file_node, link_node, Volume, Entries, names_in, entries, enter, number_at, with_edge, with_node, is_file_node, is_directory_node, IsGraph, HasNames, with_name_more, created, linked, is_open, swept_node, swept}
use Rattle.model.specs.Records.{is_vacant}
use Rattle.model.proofs.WalkLemmas.{number_at-push, number_at-put, edge_from, edge_here, edge_other, same_path, path_eq-same}
use Rattle.model.proofs.CountLemmas.{same_count, one_more}
use Rattle.model.proofs.VolumeLemmas.{alone, directory_no_file}
use Rattle.model.proofs.KeptLemmas.{Kept, kept, kept_through, entry_keeps, entries-entry, node-here, entry_was, pair_same, some_value}
use Rattle.model.proofs.PutLemmas.{entries-node, more_keeps, more_names, file_no_names}
use Rattle.model.proofs.SweepLemmas.{swept_names, stays_named}
use Rattle.model.proofs.ObjectLaws.{node_other}

-- The name b of the directory k at w, which led to nothing, comes to lead to n, which has no names itself and has one link
-- more; all else is kept.
module _ (v new : Volume) (graph : IsGraph v) (w : Path) (b : Name) (k n : ℕ) (at_k : number_at (entries v) w ≡ Some k) (k_is : is_directory_node (v k) ≡ true) (free : entries v k b ≡ None) (good : IsName b) (apart : n ≢ k) (no_root : n ≢ 3) (bare : (x : Name) → entries v n x ≡ None)
    (edges : entries new ≡ with_edge k b (Some n) (entries v)) (others : (m : ℕ) → m ≢ n → Kept (v m) (new m)) (files : (m : ℕ) (attributes : Attributes) (links : ℕ) (bytes : List ℕ) → m ≢ n → new m ≡ Some (file_node attributes links bytes) → v m ≡ Some (file_node attributes links bytes))
    (n_some : IsSome (new n)) (n_once : is_file_node (new n) ≡ false → (j : ℕ) (y : Name) → entries v j y ≢ Some n) (n_counts : (attributes : Attributes) (links : ℕ) (bytes : List ℕ) → new n ≡ Some (file_node attributes links bytes) → (before : ℕ) × (links ≡ suc before) × HasNames (entries v) n before) where
  abbrev e : Entries
  e = entries v

  abbrev place : Path
  place = w ++ b ∷ []

  -- a name leads where it did, or is the new one
  edge_of : (j : ℕ) (y : Name) (m : ℕ) → entries new j y ≡ Some m → ((j ≡ k) × (y ≡ b) × (m ≡ n)) ⊎ ((j ≡ k → y ≢ b) × (e j y ≡ Some m))
  edge_of j y m is =
      elim (edge_from k j b y (Some n) e (Some m) (ap (λ f. f j y) (sym edges) ∙ is)) [ inl (same, name, to) ↦ inl (same, name, cc) | inr old ↦ inr old ]

  edge_stays : (j : ℕ) (y : Name) → (j ≡ k → y ≢ b) → entries new j y ≡ e j y
  edge_stays j y other = ap (λ f. f j y) edges ∙ edge_other k j b y (Some n) e other

  -- what led somewhere isn't the new name
  old_place : (j : ℕ) (y : Name) (m : ℕ) → e j y ≡ Some m → j ≡ k → y ≢ b
  old_place j y m is same name =
      let none : None ≡ Some m = sym free ∙ ap (λ i. e i b) (sym same) ∙ ap (e j) (sym name) ∙ is in cc

  at_place : number_at e place ≡ None
  at_place = number_at-push e w b ∙ ap (λ o. enter e o b) at_k ∙ free

  walks : (r : Path) → number_at (entries new) r ≡ (number_at (with_edge k b (Some n) e) r)
  walks r = ap (λ f. number_at f r) edges

  put_here : number_at (entries new) place ≡ Some n
  put_here =
      walks place ∙ number_at-put e w b k (Some n) at_k (λ s is. alone v graph s w k is at_k (directory_no_file (v k) k_is)) (λ x. number_at-push e place x ∙ ap (λ o. enter e o x) at_place) (λ x. edge_other k n b x (Some n) e (λ same. absurd (apart same)) ∙ bare x) place
      ∙ cond-true (path_eq place place) (Some n) (number_at e place) (path_eq-same place)

  put_other : (r : Path) → r ≢ place → number_at (entries new) r ≡ number_at e r
  put_other r other =
      walks r ∙ number_at-put e w b k (Some n) at_k (λ s is. alone v graph s w k is at_k (directory_no_file (v k) k_is)) (λ x. number_at-push e place x ∙ ap (λ o. enter e o x) at_place) (λ x. edge_other k n b x (Some n) e (λ same. absurd (apart same)) ∙ bare x) r
      ∙ cond-false (path_eq r place) (Some n) (number_at e r) (false_from_ne_true (path_eq r place) (λ t. other (same_path r place t)))

  once_new : (j i m : ℕ) (y z : Name) → entries new j y ≡ Some m → entries new i z ≡ Some m → is_file_node (new m) ≡ false → (j ≡ i) × (y ≡ z)
  once_new j i m y z at_y at_z no_file =
      elim (edge_of j y m at_y) [
        | inl (same, name, to) ↦ elim (edge_of i z m at_z) [
          | inl (same_z, name_z, to_z) ↦ (same ∙ sym same_z, name ∙ sym name_z)
          | inr old ↦ absurd (n_once (ap (λ l. is_file_node (new l)) (sym to) ∙ no_file) i z (old.1 ∙ ap (λ l. Some l) to))
        ]
        | inr old ↦ elim (edge_of i z m at_z) [
          | inl (same_z, name_z, to_z) ↦ absurd (n_once (ap (λ l. is_file_node (new l)) (sym to_z) ∙ no_file) j y (old.1 ∙ ap (λ l. Some l) to_z))
          | inr old_z ↦ elim (cases_eq m n) [
            | inl is ↦ absurd (n_once (ap (λ l. is_file_node (new l)) (sym is) ∙ no_file) j y (old.1 ∙ ap (λ l. Some l) is))
            | inr other ↦ graph.naming.once j i m y z old.1 old_z.1 (sym (others m other).file ∙ no_file)
          ]
        ]
      ]

  count_new : (m : ℕ) (attributes : Attributes) (links : ℕ) (bytes : List ℕ) → new m ≡ Some (file_node attributes links bytes) → HasNames (entries new) m links
  count_new m attributes links bytes is =
      elim (cases_eq m n) [
        | inl same ↦
            let before = n_counts attributes links bytes (ap new (sym same) ∙ is) in
            subst (λ l. HasNames (entries new) l links) (sym same)
            (subst (HasNames (entries new) n) (sym before.1)
            (one_more (λ (c : ℕ × Name). e c.0 c.1 ≡ Some n) (λ (c : ℕ × Name). entries new c.0 c.1 ≡ Some n) (k, b) before.0 (ap (λ f. f k b) edges ∙ edge_here k b (Some n) e)
            (λ (j, y). (
              (λ old. (edge_stays j y (old_place j y n old) ∙ old, λ pair. old_place j y n old (ap (λ (c : ℕ × Name). c.0) pair) (ap (λ (c : ℕ × Name). c.1) pair))),
              (λ now. elim (edge_of j y n now.0) [ inl (same, name, to) ↦ absurd (now.1 (pair_same j k y b same name)) | inr old ↦ old.1 ]),
            )) before.2))
        | inr other ↦
            same_count (λ (c : ℕ × Name). e c.0 c.1 ≡ Some m) (λ (c : ℕ × Name). entries new c.0 c.1 ≡ Some m) links (λ (j, y). (
              (λ old. edge_stays j y (old_place j y m old) ∙ old),
              (λ now. elim (edge_of j y m now) [ inl (same, name, to) ↦ absurd (other to) | inr old ↦ old.1 ]),
            )) (graph.counts m attributes links bytes (files m attributes links bytes other is))
      ]

  reached_new : (m : ℕ) → IsSome (new m) → is_file_node (new m) ≡ false → (r : Path) × (number_at (entries new) r ≡ Some m)
  reached_new m some no_file =
      elim (cases_eq m n) [
        | inl same ↦ (place, put_here ∙ ap (λ l. Some l) (sym same))
        | inr other ↦
            let kept_m = others m other in
            let old = graph.naming.reached m (sym kept_m.some ∙ some) (sym kept_m.file ∙ no_file) in (
              old.0,
              put_other old.0 (λ is. let none : None ≡ Some m = sym at_place ∙ ap (number_at e) (sym is) ∙ old.1 in cc) ∙ old.1,
            )
      ]

  pub graph-added : IsGraph new
  graph-added = record {
    naming = record {
      root = (others 3 (λ e. no_root (sym e))).directory ∙ graph.naming.root;
      not_root = λ j y is. elim (edge_of j y 3 is) [ inl (same, name, to) ↦ no_root (sym to) | inr old ↦ graph.naming.not_root j y old.1 ];
      used = λ j m y is. elim (edge_of j y m is) [
        | inl (same, name, to) ↦ ap (λ l. is_some (new l)) to ∙ n_some
        | inr old ↦ elim (cases_eq m n) [
          | inl same ↦ ap (λ l. is_some (new l)) same ∙ n_some
          | inr other ↦ (others m other).some ∙ graph.naming.used j m y old.1
        ]
      ];
      once = once_new;
      names = λ j y some. let m = some_value (entries new j y) some in elim (edge_of j y m.0 m.1) [ inl (same, name, to) ↦ subst IsName (sym name) good | inr old ↦ graph.naming.names j y (ap is_some old.1) ];
      reached = reached_new;
    };
    counts = count_new;
  }

pub more_kept : (v : Volume) (n j : ℕ) → Kept (v j) (with_node n (with_name_more (v n)) v j)
more_kept v n j =
    elim (cases_eq j n) [
      | inl is ↦ subst (λ i. Kept (v i) (with_node n (with_name_more (v n)) v i)) (sym is) (subst (Kept (v n)) (sym (node-here n (with_name_more (v n)) v)) (more_keeps (v n)))
      | inr other ↦ subst (Kept (v j)) (sym (node_other n j (with_name_more (v n)) v other)) (kept (v j))
    ]

pub edges-linked : (v : Volume) (k : ℕ) (b : Name) (n : ℕ) → is_directory_node (v k) ≡ true → entries (linked n k b v) ≡ with_edge k b (Some n) (entries v)
edges-linked v k b n k_is =
    entries-entry k b (Some n) (with_node n (with_name_more (v n)) v) ((more_kept v n k).directory ∙ k_is)
    ∙ ap (with_edge k b (Some n)) (entries-node n (with_name_more (v n)) v (more_names (v n)))

-- a file has one more name
pub graph-linked : (v : Volume) → IsGraph v → (w : Path) (b : Name) (k n : ℕ) (attributes : Attributes) (links : ℕ) (bytes : List ℕ) → number_at (entries v) w ≡ Some k → is_directory_node (v k) ≡ true → entries v k b ≡ None → IsName b → v n ≡ Some (file_node attributes links bytes) → IsGraph (linked n k b v)
graph-linked v graph w b k n attributes links bytes at_k k_is free good a_file =
    graph-added v (linked n k b v) graph w b k n at_k k_is free good apart
    (λ e. false≢true (sym (ap is_directory_node a_file) ∙ ap (λ m. is_directory_node (v m)) e ∙ graph.naming.root))
    (λ x. file_no_names (v n) (ap is_file_node a_file) x) (edges-linked v k b n k_is) (λ m other. all m) files
    ((all n).some ∙ ap is_some a_file)
    (λ no_file. absurd (false≢true (sym no_file ∙ (all n).file ∙ ap is_file_node a_file)))
    (λ given now bytes_now is. (links, same_links given now bytes_now is, graph.counts n attributes links bytes a_file))
  where
    apart : n ≢ k
    apart e = false≢true (sym (ap is_directory_node a_file) ∙ ap (λ m. is_directory_node (v m)) e ∙ k_is)

    all : (j : ℕ) → Kept (v j) (linked n k b v j)
    all j = kept_through (v j) (with_node n (with_name_more (v n)) v j) (linked n k b v j) (more_kept v n j) (entry_keeps k b (Some n) (with_node n (with_name_more (v n)) v) j)

    files : (m : ℕ) (attributes : Attributes) (links : ℕ) (bytes : List ℕ) → m ≢ n → linked n k b v m ≡ Some (file_node attributes links bytes) → v m ≡ Some (file_node attributes links bytes)
    files m attributes links bytes other is = sym (node_other n m (with_name_more (v n)) v other) ∙ entry_was attributes links bytes k b (Some n) (with_node n (with_name_more (v n)) v) m is

    same_links : (given : Attributes) (now : ℕ) (bytes_now : List ℕ) → linked n k b v n ≡ Some (file_node given now bytes_now) → now ≡ suc links
    same_links given now bytes_now is =
        let was : Some (file_node attributes (links + 1) bytes) ≡ Some (file_node given now bytes_now) = ap with_name_more (sym a_file) ∙ sym (node-here n (with_name_more (v n)) v) ∙ entry_was given now bytes_now k b (Some n) (with_node n (with_name_more (v n)) v) n is in
        let same : links + 1 ≡ now = cc in omega (arith, same)

-- nothing leads to a vacant number
pub vacant_unnamed : (v : Volume) → IsGraph v → (n : ℕ) → is_vacant (v n) ≡ true → (j : ℕ) (y : Name) → entries v j y ≢ Some n
vacant_unnamed v graph n vacant j y is = by_node (v n) refl vacant
  where
    by_node : (o : Option Node) → v n ≡ o → is_vacant o ≡ true → ⊥
    by_node None there e = false≢true (sym (ap is_some there) ∙ graph.naming.used j n y is)
    by_node (Some (directory_node attributes names)) there e = false≢true e
    by_node (Some (link_node attributes text)) there e = false≢true e
    by_node (Some (file_node attributes (suc links) bytes)) there e = false≢true e
    by_node (Some (file_node attributes zero bytes)) there e = graph.counts n attributes 0 bytes there (j, y) is

vacant_bare : (o : Option Node) → is_vacant o ≡ true → (x : Name) → names_in o x ≡ None
vacant_bare None e x = refl
vacant_bare (Some (directory_node attributes names)) e x = absurd (false≢true e)
vacant_bare (Some (file_node attributes links bytes)) e x = refl
vacant_bare (Some (link_node attributes text)) e x = refl

vacant_other : (o : Option Node) → is_vacant o ≡ true → is_directory_node o ≡ false
vacant_other None e = refl
vacant_other (Some (directory_node attributes names)) e = absurd (false≢true e)
vacant_other (Some (file_node attributes links bytes)) e = refl
vacant_other (Some (link_node attributes text)) e = refl

vacant_apart : (v : Volume) (n k : ℕ) → is_vacant (v n) ≡ true → is_directory_node (v k) ≡ true → n ≢ k
vacant_apart v n k vacant k_is e = false≢true (sym (vacant_other (v n) vacant) ∙ ap (λ m. is_directory_node (v m)) e ∙ k_is)

pub edges-created : (v : Volume) → IsGraph v → (k : ℕ) (b : Name) (n : ℕ) (node : Node) → is_directory_node (v k) ≡ true → is_vacant (v n) ≡ true → ((x : Name) → names_in (Some node) x ≡ None) → entries (created n k b node v) ≡ with_edge k b (Some n) (entries v)
edges-created v graph k b n node k_is vacant leaf =
    entries-entry k b (Some n) (with_node n (Some node) v) (ap is_directory_node (node_other n k (Some node) v (λ e. vacant_apart v n k vacant k_is (sym e))) ∙ k_is)
    ∙ ap (with_edge k b (Some n)) (entries-node n (Some node) v (λ x. leaf x ∙ sym (vacant_bare (v n) vacant x)))

-- a new object, whose node has no names and, of a file, one link
pub graph-created : (v : Volume) → IsGraph v → (w : Path) (b : Name) (k n : ℕ) (node : Node) → number_at (entries v) w ≡ Some k → is_directory_node (v k) ≡ true → entries v k b ≡ None → IsName b → is_vacant (v n) ≡ true → ((x : Name) → names_in (Some node) x ≡ None) → ((attributes : Attributes) (links : ℕ) (bytes : List ℕ) → Some node ≡ Some (file_node attributes links bytes) → links ≡ 1) → IsGraph (created n k b node v)
graph-created v graph w b k n node at_k k_is free good vacant leaf one_link =
    graph-added v (created n k b node v) graph w b k n at_k k_is free good (vacant_apart v n k vacant k_is)
    (λ e. false≢true (sym (vacant_other (v n) vacant) ∙ ap (λ m. is_directory_node (v m)) e ∙ graph.naming.root))
    (vacant_bare (v n) vacant) (edges-created v graph k b n node k_is vacant leaf)
    (λ m other. kept_through (v m) (with_node n (Some node) v m) (created n k b node v m) (subst (Kept (v m)) (sym (node_other n m (Some node) v other)) (kept (v m))) (entry_keeps k b (Some n) (with_node n (Some node) v) m))
    (λ m attributes links bytes other is. sym (node_other n m (Some node) v other) ∙ entry_was attributes links bytes k b (Some n) (with_node n (Some node) v) m is)
    ((entry_keeps k b (Some n) (with_node n (Some node) v) n).some ∙ ap is_some (node-here n (Some node) v))
    (λ no_file j y. vacant_unnamed v graph n vacant j y)
    (λ attributes links bytes is. (0, one_link attributes links bytes (sym (node-here n (Some node) v) ∙ entry_was attributes links bytes k b (Some n) (with_node n (Some node) v) n is), λ (j, y) there. vacant_unnamed v graph n vacant j y there))

-- a file as it was but for its mode and its bytes
abbrev pub SameLinks : Option Node → Option Node → Type 0
SameLinks old new = (attributes : Attributes) (links : ℕ) (bytes : List ℕ) → new ≡ Some (file_node attributes links bytes) → (a : Attributes) × (b : List ℕ) × (old ≡ Some (file_node a links b))

-- one object changes but for its kind, its names and its links
module _ (v : Volume) (graph : IsGraph v) (n : ℕ) (o : Option Node) (names : (x : Name) → names_in o x ≡ names_in (v n) x) (file : is_file_node o ≡ is_file_node (v n)) (directory : is_directory_node o ≡ is_directory_node (v n)) (some : is_some o ≡ is_some (v n)) (same_links : SameLinks (v n) o) where
  abbrev altered : Volume
  altered = with_node n o v

  same_entries : entries altered ≡ entries v
  same_entries = entries-node n o v names

  same_by : {X : Type 0} (f : Option Node → X) → f o ≡ f (v n) → (m : ℕ) → f (altered m) ≡ f (v m)
  same_by f same m =
      elim (cases_eq m n) [
        | inl is ↦ ap (λ k. f (altered k)) is ∙ ap f (node-here n o v) ∙ same ∙ ap (λ k. f (v k)) (sym is)
        | inr other ↦ ap f (node_other n m o v other)
      ]

  was_file : (m : ℕ) → SameLinks (v m) (altered m)
  was_file m =
      elim (cases_eq m n) [
        | inl is ↦ subst (λ k. SameLinks (v k) (altered k)) (sym is) (subst (SameLinks (v n)) (sym (node-here n o v)) same_links)
        | inr other ↦ subst (SameLinks (v m)) (sym (node_other n m o v other)) (λ attributes links bytes is. (attributes, bytes, is))
      ]

  pub graph-altered : IsGraph altered
  graph-altered = record {
    naming = record {
      root = same_by is_directory_node directory 3 ∙ graph.naming.root;
      not_root = λ d x is. graph.naming.not_root d x (ap (λ e. e d x) (sym same_entries) ∙ is);
      used = λ d m x is. same_by is_some some m ∙ graph.naming.used d m x (ap (λ e. e d x) (sym same_entries) ∙ is);
      once = λ d k m x y at_x at_y no_file. graph.naming.once d k m x y (ap (λ e. e d x) (sym same_entries) ∙ at_x) (ap (λ e. e k y) (sym same_entries) ∙ at_y) (sym (same_by is_file_node file m) ∙ no_file);
      names = λ d x is. graph.naming.names d x (ap (λ e. is_some (e d x)) (sym same_entries) ∙ is);
      reached = λ m is no_file. let old = graph.naming.reached m (sym (same_by is_some some m) ∙ is) (sym (same_by is_file_node file m) ∙ no_file) in (old.0, ap (λ e. number_at e old.0) same_entries ∙ old.1);
    };
    counts = λ m attributes links bytes is. let old = was_file m attributes links bytes is in subst (λ e. HasNames e m links) (sym same_entries) (graph.counts m old.0 links old.1 old.2);
  }

-- what a sweep drops has no names and none leads to it
module _ (v : Volume) (graph : IsGraph v) (table : ℕ → Option Description) where
  pub same_swept : entries (swept table v) ≡ entries v
  same_swept = fun_ext {f = entries (swept table v)} {g = entries v} (λ n. fun_ext (λ x. swept_names (is_open table OPEN_FILES n) (v n) x))

  swept_was : (b : Bool) (o : Option Node) → IsSome (swept_node b o) → swept_node b o ≡ o
  swept_was b None some = refl
  swept_was b (Some (directory_node attributes names)) some = refl
  swept_was true (Some (file_node attributes zero bytes)) some = refl
  swept_was false (Some (file_node attributes zero bytes)) some = absurd (false≢true some)
  swept_was b (Some (file_node attributes (suc links) bytes)) some = refl
  swept_was b (Some (link_node attributes text)) some = refl

  pub swept_is : (n : ℕ) → IsSome (swept table v n) → swept table v n ≡ v n
  swept_is n some = swept_was (is_open table OPEN_FILES n) (v n) some

  -- what has a name stays
  named_stays : (d n : ℕ) (x : Name) → entries v d x ≡ Some n → swept table v n ≡ v n
  named_stays d n x there = stays_named (is_open table OPEN_FILES n) (v n) (λ (attributes, bytes, is). graph.counts n attributes 0 bytes is (d, x) there)

  root_stays : (b : Bool) (o : Option Node) → is_directory_node o ≡ true → is_directory_node (swept_node b o) ≡ true
  root_stays b None e = e
  root_stays b (Some (directory_node attributes names)) e = refl
  root_stays b (Some (file_node attributes links bytes)) e = absurd (false≢true e)
  root_stays b (Some (link_node attributes text)) e = e

  pub graph-swept : IsGraph (swept table v)
  graph-swept = record {
    naming = record {
      root = root_stays (is_open table OPEN_FILES 3) (v 3) graph.naming.root;
      not_root = λ d x is. graph.naming.not_root d x (ap (λ e. e d x) (sym same_swept) ∙ is);
      used = λ d m x is. let there = ap (λ e. e d x) (sym same_swept) ∙ is in ap is_some (named_stays d m x there) ∙ graph.naming.used d m x there;
      once = λ d k m x y at_x at_y no_file.
          let there = ap (λ e. e d x) (sym same_swept) ∙ at_x in
          graph.naming.once d k m x y there (ap (λ e. e k y) (sym same_swept) ∙ at_y) (ap is_file_node (sym (named_stays d m x there)) ∙ no_file);
      names = λ d x is. graph.naming.names d x (ap (λ e. is_some (e d x)) (sym same_swept) ∙ is);
      reached = λ m is no_file.
          let same = swept_is m is in
          let old = graph.naming.reached m (ap is_some (sym same) ∙ is) (ap is_file_node (sym same) ∙ no_file) in
          (old.0, ap (λ e. number_at e old.0) same_swept ∙ old.1);
    };
    counts = λ m attributes links bytes is. subst (λ e. HasNames e m links) (sym same_swept) (graph.counts m attributes links bytes (sym (swept_is m (ap is_some is)) ∙ is));
  }
