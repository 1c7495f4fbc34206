-- What the records' changes of names keep of each object, and of the entries.
use Rattle.std.proofs.Common.{◌≡◌, ◌≢◌, ◌⊎◌, inl, inr, ℕ, ◌==◌, ◌-◌, ◌&&◌, arith, List, [], ◌∷◌, ◌++◌, fold, true, false, Option, Some, None, is_some, IsSome, bytes_eq, refl, sym, ap, subst, ◌∙◌, append-nil, append_assoc}
use Rattle.std.specs.Prelude.{if◌then◌else◌}
use Rattle.std.proofs.Math.Path.{fun_ext}
use Rattle.std.proofs.lemmas.Bool.{cases_Bool, cases_eq, cond_both, cond-true, cond-false, eqb-true, eq-eqb, false≢true}
use Rattle.std.proofs.lemmas.List.{same_from_push}
use Rattle.std.proofs.lemmas.List.Sums.{fold-append}
use Rattle.model.specs.declared.attributes.Attributes.{Attributes}
use Rattle.model.specs.Paths.{Name, Path, IsName, behind}
use Rattle.model.specs.Trees.{Description}
use Rattle.model.specs.Edits.{relocate, relocated, moved}
use Rattle.model.specs.Volumes.{Node, directory_node, file_node, link_node, Volume, Entries, names_in, entries, enter, number_at, object_of, object_at, attributes_of, bytes_of_node, tree_of, with_node, with_edge, set_name, with_entry, is_file_node, is_directory_node, IsGraph, with_name_less, released, renamed, HasNames}
use Rattle.model.proofs.WalkLemmas.{number_at-push, number_at-moved, behind-append, behind-is, edge_from, edge_other, edge_here, relocated-is, same_bytes, bytes_eq-same}
use Rattle.model.proofs.CountLemmas.{same_count, one_less, one_more}
use Rattle.model.proofs.VolumeLemmas.{ends, alone, directory_no_file}
use Rattle.model.proofs.ObjectLaws.{node_other}

-- an object is the same but for its names and their count
pub record Kept (old new : Option Node) : Type 0 where
  pub object : (n : ℕ) → object_of n new ≡ object_of n old
  pub bytes : bytes_of_node new ≡ bytes_of_node old
  pub attributes : attributes_of new ≡ attributes_of old
  pub directory : is_directory_node new ≡ is_directory_node old
  pub file : is_file_node new ≡ is_file_node old
  pub some : is_some new ≡ is_some old

pub kept : (o : Option Node) → Kept o o
kept o = record { object = λ n. refl; bytes = refl; attributes = refl; directory = refl; file = refl; some = refl }

pub kept_through : (a b c : Option Node) → Kept a b → Kept b c → Kept a c
kept_through a b c k l = record { object = λ n. l.object n ∙ k.object n; bytes = l.bytes ∙ k.bytes; attributes = l.attributes ∙ k.attributes; directory = l.directory ∙ k.directory; file = l.file ∙ k.file; some = l.some ∙ k.some }

set_keeps : (x : Name) (to : Option ℕ) (o : Option Node) → Kept o (set_name x to o)
set_keeps x to None = kept None
set_keeps x to (Some (directory_node attributes names)) = record { object = λ n. refl; bytes = refl; attributes = refl; directory = refl; file = refl; some = refl }
set_keeps x to (Some (file_node attributes links bytes)) = kept (Some (file_node attributes links bytes))
set_keeps x to (Some (link_node attributes text)) = kept (Some (link_node attributes text))

less_keeps : (o : Option Node) → is_file_node o ≡ true → Kept o (with_name_less o)
less_keeps None e = cc
less_keeps (Some (directory_node attributes names)) e = cc
less_keeps (Some (file_node attributes links bytes)) e = record { object = λ n. refl; bytes = refl; attributes = refl; directory = refl; file = refl; some = refl }
less_keeps (Some (link_node attributes text)) e = cc

less_names : (o : Option Node) (x : Name) → names_in (with_name_less o) x ≡ None
less_names None x = refl
less_names (Some (directory_node attributes names)) x = refl
less_names (Some (file_node attributes links bytes)) x = refl
less_names (Some (link_node attributes text)) x = refl

pub node-here : (n : ℕ) (o : Option Node) (v : Volume) → with_node n o v n ≡ o
node-here n o v = cond-true (n == n) o (v n) (eq-eqb n n refl)

pub entry_keeps : (d : ℕ) (x : Name) (to : Option ℕ) (v : Volume) (j : ℕ) → Kept (v j) (with_entry d x to v j)
entry_keeps d x to v j =
    cond_both (j == d) (set_name x to (v d)) (v j) (Kept (v j)) (λ e. subst (λ k. Kept (v k) (set_name x to (v d))) (sym (eqb-true j d e)) (set_keeps x to (v d))) (λ e. kept (v j))

pub released_keeps : (o : Option ℕ) (v : Volume) (j : ℕ) → (o ≡ Some j → is_file_node (v j) ≡ true) → Kept (v j) (released o v j)
released_keeps None v j file = kept (v j)
released_keeps (Some m) v j file =
    elim (cases_eq j m) [
      | inl same ↦ subst (λ k. Kept (v j) (with_node k (with_name_less (v k)) v j)) same (subst (Kept (v j)) (sym (node-here j (with_name_less (v j)) v)) (less_keeps (v j) (file (ap (λ k. Some k) (sym same)))))
      | inr other ↦ subst (Kept (v j)) (sym (node_other m j (with_name_less (v m)) v other)) (kept (v j))
    ]

-- the entries after a change of a name

set_names : (o : Option Node) (x y : Name) (to : Option ℕ) → is_directory_node o ≡ true → names_in (set_name x to o) y ≡ (if bytes_eq y x then to else names_in o y)
set_names None x y to e = cc
set_names (Some (directory_node attributes names)) x y to e = refl
set_names (Some (file_node attributes links bytes)) x y to e = cc
set_names (Some (link_node attributes text)) x y to e = cc

pub entries-entry : (d : ℕ) (x : Name) (to : Option ℕ) (v : Volume) → is_directory_node (v d) ≡ true → entries (with_entry d x to v) ≡ with_edge d x to (entries v)
entries-entry d x to v directory =
    fun_ext (λ n. fun_ext (λ y.
    elim (cases_Bool (n == d)) [
      | inl e ↦ ap (λ o. names_in o y) (cond-true (n == d) (set_name x to (v d)) (v n) e) ∙ set_names (v d) x y to directory
          ∙ ap (λ k. if bytes_eq y x then to else names_in (v k) y) (sym (eqb-true n d e))
          ∙ ap (λ t. if t && bytes_eq y x then to else names_in (v n) y) (sym e)
      | inr e ↦ ap (λ o. names_in o y) (cond-false (n == d) (set_name x to (v d)) (v n) e) ∙ ap (λ t. if t && bytes_eq y x then to else names_in (v n) y) (sym e)
    ]))

pub entries-released : (o : Option ℕ) (v : Volume) → ((m : ℕ) (x : Name) → o ≡ Some m → entries v m x ≡ None) → entries (released o v) ≡ entries v
entries-released None v bare = refl
entries-released (Some m) v bare =
    fun_ext (λ n. fun_ext (λ x.
    elim (cases_eq n m) [
      | inl same ↦ ap (λ k. names_in (with_node m (with_name_less (v m)) v k) x) same ∙ ap (λ o. names_in o x) (node-here m (with_name_less (v m)) v) ∙ less_names (v m) x
          ∙ sym (bare m x refl) ∙ ap (λ k. names_in (v k) x) (sym same)
      | inr other ↦ ap (λ o. names_in o x) (node_other m n (with_name_less (v m)) v other)
    ]))

-- a relocated map through a function that keeps None, and where its values come from
relocate-through : (v : Volume) (p : Path) (f : Path → Option ℕ) (r : Path) (a b : Option Path) → object_at v (relocate a b p f r) ≡ relocate a b p (λ r. object_at v (f r)) r
relocate-through v p f r (Some w) b = refl
relocate-through v p f r None (Some w) = refl
relocate-through v p f r None None = refl

-- p leads to something else than q does, whatever stands behind it
abbrev pub IsApart : Path → Path → Type 0
IsApart p q = (w : Path) → p ++ w ≢ q

relocate-from : (p q : Path) (f : Path → Option ℕ) (r : Path) (j : ℕ) → IsApart p q → (a b : Option Path) → behind q r ≡ a → relocate a b p f r ≡ Some j → (s : Path) × (f s ≡ Some j) × (s ≢ q)
relocate-from p q f r j apart (Some w) b ea is = (p ++ w, is, apart w)
relocate-from p q f r j apart None (Some w) ea is = cc
relocate-from p q f r j apart None None ea is =
    (r, is, λ same. let some : behind q r ≡ Some [] = ap (behind q) (same ∙ sym (append-nil q)) ∙ behind-append q [] in cc)

pub is_apart : (p v : Path) (b : Name) → behind p v ≡ None → p ≢ v ++ b ∷ [] → IsApart p (v ++ b ∷ [])
is_apart p v b none other w is =
    elim (ends w) [
      | inl e ↦ other (sym (append-nil p) ∙ ap (λ r. p ++ r) (sym e) ∙ is)
      | inr (u, y, e) ↦
          let back = same_from_push (p ++ u) v y b (append_assoc p u (y ∷ []) ∙ ap (λ r. p ++ r) (sym e) ∙ is) in
          let some : None ≡ Some u = sym none ∙ ap (behind p) (sym back.0) ∙ behind-append p u in cc
    ]

pub some_value : {X : Type 0} (o : Option X) → IsSome o → (x : X) × (o ≡ Some x)
some_value None some = absurd (false≢true some)
some_value (Some x) some = (x, refl)

pub is_or_not : (o : Option ℕ) (m : ℕ) → (o ≡ Some m) ⊎ (o ≢ Some m)
is_or_not None m = inr (λ e. cc)
is_or_not (Some t) m = elim (cases_eq t m) [ inl e ↦ inl (ap (λ i. Some i) e) | inr other ↦ inr (λ e. other (cc)) ]

pub same_or_not : (p q : ℕ × Name) → (p ≡ q) ⊎ (p ≢ q)
same_or_not (d, x) (k, y) =
    elim (cases_eq d k) [
      | inl same ↦ elim (cases_Bool (bytes_eq x y)) [
        | inl e ↦ let name : x ≡ y = same_bytes x y e in inl (cc)
        | inr e ↦ inr (λ is. let name : x ≡ y = ap (λ (q : ℕ × Name). q.1) is in false≢true (sym e ∙ subst (λ z. bytes_eq x z ≡ true) name (bytes_eq-same x)))
      ]
      | inr other ↦ inr (λ is. other (ap (λ (q : ℕ × Name). q.0) is))
    ]

pub pair_same : (d k : ℕ) (x y : Name) → d ≡ k → x ≡ y → (◌≡◌ {A = ℕ × Name} (d, x) (k, y))
pair_same d k x y same name = ap (λ j. (j, x)) same ∙ ap (λ z. (k, z)) name

pub less_none : (o : Option Node) → is_file_node o ≡ false → with_name_less o ≡ None
less_none None e = refl
less_none (Some (directory_node attributes names)) e = refl
less_none (Some (file_node attributes links bytes)) e = cc
less_none (Some (link_node attributes text)) e = refl

module _ (attributes : Attributes) (links : ℕ) (bytes : List ℕ) where
  set_was : (x : Name) (to : Option ℕ) (o : Option Node) → set_name x to o ≡ Some (file_node attributes links bytes) → o ≡ Some (file_node attributes links bytes)
  set_was x to None e = e
  set_was x to (Some (directory_node m names)) e = cc
  set_was x to (Some (file_node m l b)) e = e
  set_was x to (Some (link_node attributes text)) e = e

  -- a file after a change of a name was that file before
  pub entry_was : (d : ℕ) (x : Name) (to : Option ℕ) (v : Volume) (j : ℕ) → with_entry d x to v j ≡ Some (file_node attributes links bytes) → v j ≡ Some (file_node attributes links bytes)
  entry_was d x to v j is =
      elim (cases_Bool (j == d)) [
        | inl e ↦ ap v (eqb-true j d e) ∙ set_was x to (v d) (sym (cond-true (j == d) (set_name x to (v d)) (v j) e) ∙ is)
        | inr e ↦ sym (cond-false (j == d) (set_name x to (v d)) (v j) e) ∙ is
      ]

  pub less_was : (o : Option Node) → with_name_less o ≡ Some (file_node attributes links bytes) → (l : ℕ) × (o ≡ Some (file_node attributes l bytes)) × (links ≡ l - 1)
  less_was None e = cc
  less_was (Some (directory_node m names)) e = cc
  less_was (Some (file_node m l b)) e = (l, cc, cc)
  less_was (Some (link_node attributes text)) e = cc

pub released_other : (o : Option ℕ) (v : Volume) (j : ℕ) → o ≢ Some j → released o v j ≡ v j
released_other None v j other = refl
released_other (Some m) v j other = node_other m j (with_name_less (v m)) v (λ e. other (ap (λ i. Some i) (sym e)))

pub released_here : (o : Option ℕ) (v : Volume) (j : ℕ) → o ≡ Some j → released o v j ≡ with_name_less (v j)
released_here o v j is = ap (λ p. released p v j) is ∙ node-here j (with_name_less (v j)) v

-- n goes from the name a in the directory d at u to the name b in the directory k at w
module _ (v : Volume) (volume : IsGraph v) (u w : Path) (a b : Name) (d k n : ℕ) (at_d : number_at (entries v) u ≡ Some d) (at_k : number_at (entries v) w ≡ Some k) (there : entries v d a ≡ Some n) (d_is : is_directory_node (v d) ≡ true) (k_is : is_directory_node (v k) ≡ true) (empty : (m : ℕ) (x : Name) → entries v k b ≡ Some m → entries v m x ≡ None) (outside : behind (u ++ a ∷ []) w ≡ None) (other : u ++ a ∷ [] ≢ w ++ b ∷ []) where
  abbrev p : Path
  p = u ++ a ∷ []

  abbrev q : Path
  q = w ++ b ∷ []

  abbrev without : Volume
  without = released (entries v k b) v

  abbrev new : Volume
  new = renamed d a k b v

  -- but what is replaced, each object is kept
  pub keeps : (j : ℕ) → (entries v k b ≡ Some j → is_file_node (v j) ≡ true) → Kept (v j) (new j)
  keeps j file =
      kept_through (v j) (without j) (new j) (released_keeps (entries v k b) v j file)
      (kept_through (without j) (with_entry d a None without j) (new j) (entry_keeps d a None without j) (entry_keeps k b (entries v d a) (with_entry d a None without) j))

  d_stays : is_directory_node (without d) ≡ true
  d_stays = (released_keeps (entries v k b) v d (λ is. let none : None ≡ Some n = sym (empty d a is) ∙ there in cc)).directory ∙ d_is

  k_stays : is_directory_node (with_entry d a None without k) ≡ true
  k_stays = (entry_keeps d a None without k).directory ∙ (released_keeps (entries v k b) v k (λ is. let none : None ≡ Some k = sym (empty k b is) ∙ is in cc)).directory ∙ k_is

  pub entries-renamed : entries new ≡ with_edge k b (Some n) (with_edge d a None (entries v))
  entries-renamed =
      entries-entry k b (entries v d a) (with_entry d a None without) k_stays
      ∙ ap (λ to. with_edge k b to (entries (with_entry d a None without))) there
      ∙ ap (with_edge k b (Some n)) (entries-entry d a None without d_stays ∙ ap (with_edge d a None) (entries-released (entries v k b) v empty))

  pub number_at-renamed : (r : Path) → number_at (entries new) r ≡ relocated p q (number_at (entries v)) r
  number_at-renamed r =
      ap (λ e. number_at e r) entries-renamed
      ∙ number_at-moved (entries v) u w a b d k n at_d at_k there (λ s is. alone v volume s u d is at_d (directory_no_file (v d) d_is)) (λ s is. alone v volume s w k is at_k (directory_no_file (v k) k_is)) outside other r

  at_q : number_at (entries v) q ≡ entries v k b
  at_q = number_at-push (entries v) w b ∙ ap (λ o. enter (entries v) o b) at_k

  -- what is found after the move is no object that it replaced
  pub found_kept : (r : Path) (j : ℕ) → relocated p q (number_at (entries v)) r ≡ Some j → Kept (v j) (new j)
  found_kept r j is =
      keeps j (λ target. elim (cases_Bool (is_file_node (v j))) [
        | inl file ↦ file
        | inr no_file ↦
            let from = relocate-from p q (number_at (entries v)) r j (is_apart p w b outside other) (behind q r) (behind p r) refl is in
            absurd (from.2 (alone v volume from.0 q j from.1 (at_q ∙ target) no_file))
      ])

  object_kept : (r : Path) (o : Option ℕ) → relocated p q (number_at (entries v)) r ≡ o → object_at new o ≡ object_at v o
  object_kept r None is = refl
  object_kept r (Some j) is = (found_kept r j is).object j

  -- the tree of the new volume has the old tree's objects, moved
  pub objects-renamed : (table : ℕ → Option Description) → (tree_of new table).objects ≡ (moved p q (tree_of v table)).objects
  objects-renamed table =
      fun_ext (λ r. ap (object_at new) (number_at-renamed r) ∙ object_kept r (relocated p q (number_at (entries v)) r) refl ∙ relocate-through v p (number_at (entries v)) r (behind q r) (behind p r))

  -- a volume stays one, where another object is replaced
  module _ (distinct : entries v k b ≢ Some n) (good : IsName b) where
    abbrev e : Entries
    e = entries v

    abbrev IsOld : ℕ → Name → ℕ → Type 0
    IsOld j y m = (e j y ≡ Some m) × (j ≡ d → y ≢ a) × (j ≡ k → y ≢ b)

    edge_of : (j : ℕ) (y : Name) (m : ℕ) → entries new j y ≡ Some m → ((j ≡ k) × (y ≡ b) × (m ≡ n)) ⊎ IsOld j y m
    edge_of j y m is =
        let there_now : with_edge k b (Some n) (with_edge d a None e) j y ≡ Some m = ap (λ f. f j y) (sym entries-renamed) ∙ is in
        elim (edge_from k j b y (Some n) (with_edge d a None e) (Some m) there_now) [
          | inl (same, name, to) ↦ inl (same, name, cc)
          | inr (other_place, before) ↦ elim (edge_from d j a y None e (Some m) before) [
            | inl (same, name, to) ↦ cc
            | inr (not_there, old) ↦ inr (old, not_there, other_place)
          ]
        ]

    -- another name than the one that was replaced leads to what is kept
    old_kept : (j : ℕ) (y : Name) (m : ℕ) → IsOld j y m → Kept (v m) (new m)
    old_kept j y m old =
        keeps m (λ target. elim (cases_Bool (is_file_node (v m))) [
          | inl a_file ↦ a_file
          | inr no_file ↦ let same = volume.naming.once j k m y b old.0 target no_file in absurd (old.2 same.0 same.1)
        ])

    n_kept : Kept (v n) (new n)
    n_kept = keeps n (λ target. absurd (distinct target))

    edge_kept : (j : ℕ) (y : Name) (m : ℕ) → entries new j y ≡ Some m → Kept (v m) (new m)
    edge_kept j y m is = elim (edge_of j y m is) [ inl (same, name, to) ↦ subst (λ i. Kept (v i) (new i)) (sym to) n_kept | inr old ↦ old_kept j y m old ]

    once_new : (j i m : ℕ) (y z : Name) → entries new j y ≡ Some m → entries new i z ≡ Some m → is_file_node (new m) ≡ false → (j ≡ i) × (y ≡ z)
    once_new j i m y z at_y at_z no_file =
        let plain : is_file_node (v m) ≡ false = sym (edge_kept j y m at_y).file ∙ no_file in
        let n_only : (l : ℕ) (x : Name) → m ≡ n → IsOld l x m → ⊥ = λ l x is old. let same = volume.naming.once l d m x a old.0 (there ∙ ap (λ o. Some o) (sym is)) plain in old.1 same.0 same.1 in
        elim (edge_of j y m at_y) [
          | inl (same, name, to) ↦ elim (edge_of i z m at_z) [
            | inl (same_z, name_z, to_z) ↦ (same ∙ sym same_z, name ∙ sym name_z)
            | inr old ↦ absurd (n_only i z to old)
          ]
          | inr old ↦ elim (edge_of i z m at_z) [
            | inl (same_z, name_z, to_z) ↦ absurd (n_only j y to_z old)
            | inr old_z ↦ volume.naming.once j i m y z old.0 old_z.0 plain
          ]
        ]

    nothing_below : (o : Option ℕ) → e k b ≡ o → (x : Name) → enter e o x ≡ None
    nothing_below None is x = refl
    nothing_below (Some m) is x = empty m x is

    nothing_deeper : (w : Path) (y : Name) (s : Path) → (o : Option ℕ) → ((x : Name) → enter e o x ≡ None) → fold (enter e) o (y ∷ s) ≡ None
    nothing_deeper w y s o bare = ap (λ m. fold (enter e) m s) (bare y) ∙ stays_nowhere s
      where
        stays_nowhere : (s : Path) → fold (enter e) None s ≡ None
        stays_nowhere [] = refl
        stays_nowhere (y ∷ s) = stays_nowhere s

    path_to : (m : ℕ) → e k b ≢ Some m → (r : Path) → number_at e r ≡ Some m → (s : Path) × (number_at (entries new) s ≡ Some m)
    path_to m other r at_r = by (behind p r) (behind q r) refl refl
      where
        by : (x y : Option Path) → behind p r ≡ x → behind q r ≡ y → (s : Path) × (number_at (entries new) s ≡ Some m)
        by (Some s) y ex ey =
            (q ++ s, number_at-renamed (q ++ s) ∙ relocated-is p q (number_at e) (q ++ s) (Some s) (behind p (q ++ s)) (behind-append q s) refl ∙ ap (number_at e) (sym (behind-is p r s ex)) ∙ at_r)
        by None None ex ey = (r, number_at-renamed r ∙ relocated-is p q (number_at e) r None None ey ex ∙ at_r)
        by None (Some []) ex ey = absurd (other (sym at_q ∙ ap (number_at e) (sym (append-nil q) ∙ sym (behind-is q r [] ey)) ∙ at_r))
        by None (Some (y ∷ s)) ex ey =
            let nowhere : number_at e r ≡ None = ap (number_at e) (behind-is q r (y ∷ s) ey) ∙ fold-append (enter e) (Some 3) q (y ∷ s) ∙ nothing_deeper q y s (number_at e q) (λ x. ap (λ o. enter e o x) at_q ∙ nothing_below (e k b) refl x) in
            let some : None ≡ Some m = sym nowhere ∙ at_r in cc

    -- what isn't replaced is reached still
    reached_new : (m : ℕ) → IsSome (new m) → is_file_node (new m) ≡ false → (r : Path) × (number_at (entries new) r ≡ Some m)
    reached_new m some no_file =
        elim (is_or_not (e k b) m) [
          | inl target ↦ elim (cases_Bool (is_file_node (v m))) [
            | inl a_file ↦ absurd (false≢true (sym no_file ∙ (keeps m (λ is. a_file)).file ∙ a_file))
            | inr plain ↦
                let none : is_some (without m) ≡ false = ap is_some (released_here (e k b) v m target ∙ less_none (v m) plain) in
                absurd (false≢true (sym none ∙ sym (kept_through (without m) (with_entry d a None without m) (new m) (entry_keeps d a None without m) (entry_keeps k b (entries v d a) (with_entry d a None without) m)).some ∙ some))
          ]
          | inr other ↦
              let same = keeps m (λ target. absurd (other target)) in
              let old = volume.naming.reached m (sym same.some ∙ some) (sym same.file ∙ no_file) in
              path_to m other old.0 old.1
        ]

    new_edge : (j : ℕ) (y : Name) → (j ≡ d → y ≢ a) → (j ≡ k → y ≢ b) → entries new j y ≡ e j y
    new_edge j y not_a not_b = ap (λ f. f j y) entries-renamed ∙ edge_other k j b y (Some n) (with_edge d a None e) not_b ∙ edge_other d j a y None e not_a

    count_new : (m : ℕ) (attributes : Attributes) (links : ℕ) (bytes : List ℕ) → new m ≡ Some (file_node attributes links bytes) → HasNames (entries new) m links
    count_new m attributes links bytes is =
        let was : without m ≡ Some (file_node attributes links bytes) = entry_was attributes links bytes d a None without m (entry_was attributes links bytes k b (entries v d a) (with_entry d a None without) m is) in
        elim (is_or_not (e k b) m) [
          | inl target ↦
              let not_n : m ≢ n = λ same. distinct (target ∙ ap (λ i. Some i) same) in
              let before = less_was attributes links bytes (v m) (sym (released_here (e k b) v m target) ∙ was) in
              let less = one_less (λ (c : ℕ × Name). e c.0 c.1 ≡ Some m) (k, b) before.0 same_or_not target (volume.counts m attributes before.0 bytes before.1) in
              subst (HasNames (entries new) m) (omega (arith, before.2, less.1))
              (same_count (λ (c : ℕ × Name). (e c.0 c.1 ≡ Some m) × (c ≢ (k, b))) (λ (c : ℕ × Name). entries new c.0 c.1 ≡ Some m) less.0 (λ (j, y). (
                (λ old. new_edge j y (λ same name. not_n (let one : Some m ≡ Some n = sym old.0 ∙ ap (λ i. e i y) same ∙ ap (λ x. e d x) name ∙ there in cc)) (λ same name. old.1 (pair_same j k y b same name)) ∙ old.0),
                (λ now. elim (edge_of j y m now) [ inl (same, name, to) ↦ absurd (not_n to) | inr old ↦ (old.0, λ is. old.2 (ap (λ (c : ℕ × Name). c.0) is) (ap (λ (c : ℕ × Name). c.1) is)) ]),
              )) less.2)
          | inr other ↦
              let before : v m ≡ Some (file_node attributes links bytes) = sym (released_other (e k b) v m other) ∙ was in
              let names = volume.counts m attributes links bytes before in
              elim (cases_eq m n) [
                | inl same_n ↦
                    let less = one_less (λ (c : ℕ × Name). e c.0 c.1 ≡ Some m) (d, a) links same_or_not (there ∙ ap (λ i. Some i) (sym same_n)) names in
                    subst (HasNames (entries new) m) (sym less.1)
                    (one_more (λ (c : ℕ × Name). (e c.0 c.1 ≡ Some m) × (c ≢ (d, a))) (λ (c : ℕ × Name). entries new c.0 c.1 ≡ Some m) (k, b) less.0 (ap (λ f. f k b) entries-renamed ∙ edge_here k b (Some n) (with_edge d a None e) ∙ ap (λ i. Some i) (sym same_n))
                    (λ (j, y). (
                      (λ old. (new_edge j y (λ same name. old.1 (pair_same j d y a same name)) (λ same name. other (ap (λ i. e i b) (sym same) ∙ ap (λ x. e j x) (sym name) ∙ old.0)) ∙ old.0, λ is. other (ap (λ (c : ℕ × Name). e c.0 c.1) (sym is) ∙ old.0))),
                      (λ now. elim (edge_of j y m now.0) [ inl (same, name, to) ↦ absurd (now.1 (pair_same j k y b same name)) | inr old ↦ (old.0, λ is. old.1 (ap (λ (c : ℕ × Name). c.0) is) (ap (λ (c : ℕ × Name). c.1) is)) ]),
                    )) less.2)
                | inr not_n ↦
                    same_count (λ (c : ℕ × Name). e c.0 c.1 ≡ Some m) (λ (c : ℕ × Name). entries new c.0 c.1 ≡ Some m) links (λ (j, y). (
                      (λ old. new_edge j y (λ same name. not_n (let one : Some m ≡ Some n = sym old ∙ ap (λ i. e i y) same ∙ ap (λ x. e d x) name ∙ there in cc)) (λ same name. other (ap (λ i. e i b) (sym same) ∙ ap (λ x. e j x) (sym name) ∙ old)) ∙ old),
                      (λ now. elim (edge_of j y m now) [ inl (same, name, to) ↦ absurd (not_n to) | inr old ↦ old.0 ]),
                    )) names
              ]
        ]

    pub volume-renamed : IsGraph new
    volume-renamed = record {
      naming = record {
        root = (keeps 3 (λ target. absurd (volume.naming.not_root k b target))).directory ∙ volume.naming.root;
        not_root = λ j y is. elim (edge_of j y 3 is) [ inl (same, name, to) ↦ volume.naming.not_root d a (there ∙ ap (λ m. Some m) (sym to)) | inr old ↦ volume.naming.not_root j y old.0 ];
        used = λ j m y is. (edge_kept j y m is).some ∙ elim (edge_of j y m is) [
          | inl (same, name, to) ↦ volume.naming.used d m a (there ∙ ap (λ i. Some i) (sym to))
          | inr old ↦ volume.naming.used j m y old.0
        ];
        once = once_new;
        names = λ j y some. let m = some_value (entries new j y) some in elim (edge_of j y m.0 m.1) [ inl (same, name, to) ↦ subst IsName (sym name) good | inr old ↦ volume.naming.names j y (ap is_some old.0) ];
        reached = reached_new;
      };
      counts = count_new;
    }
