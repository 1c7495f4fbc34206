-- The block map's file stands as it was planned.
use Rattle.std.proofs.Common.{◌≡◌, ◌≢◌, ◌⊎◌, inl, inr, ℕ, ◌+◌, ◌-◌, ◌*◌, ◌/◌, ◌%◌, ◌<◌, ◌≤◌, true, false, leb, suc, zero, Bool, List, [], length, drop, get_or, refl, ap, sym, subst, ◌∙◌, arith}
use Rattle.std.specs.Prelude.{All, nat_le, if◌then◌else◌, slice_index, slice_index_or}
use Rattle.std.proofs.lemmas.Bool.{cases_eq, cases_lt, cond_below, cond_above, le-leb, lt-leb}
use Rattle.std.proofs.lemmas.List.{get_or_past, get_or-drop, get_or_default}
use Rattle.layout.specs.Bytes.{zeros}
use Rattle.layout.specs.FileBytes.{byte_in, EndsAt}
use Rattle.layout.specs.Limits.{Sizes}
use Rattle.layout.specs.Maps.{map_entry, IsIndirectBlock}
use Rattle.layout.specs.Pointer.{PointsBelow}
use Rattle.layout.specs.Inode.{IsInode, pointers_used}
use Rattle.layout.specs.Places.{Blocks, pointed}
use Rattle.layout.specs.declared.inode.Body.{Body}
use Rattle.layout.specs.declared.inode.Inode.{Inode}
use Rattle.layout.specs.declared.trees.Layout.TheVariants.{Plain}
use Rattle.layout.specs.declared.pointer.Pointer.{Pointer}
use Rattle.layout.specs.declared.pointer.Pointer.TheVariants.{Hole, Block}
use Rattle.images.specs.Nodes.{held, Names, Agrees, IsOnce, body_block, file_block, place_at_height}
use Rattle.images.specs.Soundness.{IsSoundFile, IsReadable, HasNoHole, nodes_of_size}
use Rattle.blockmap.specs.Parts.{Part}
use Rattle.blockmap.specs.Maps.{IsTouched, no_part, entry_at, settled_at}
use Rattle.conspoint.specs.declared.draft.Draft.{Draft}
use Rattle.conspoint.specs.Groups.{pointer_at}
use Rattle.conspoint.specs.MapFiles.{AreTouched, node_at, IsSettledMap, IsMapOn}
use Rattle.conspoint.proofs.MapNodes.{IsSpot, at_spot, spot_once, spot_of, named_at, spot_named, body_of, used_one, used_two}
use Rattle.conspoint.proofs.MapBytes.{zero_bytes}
use Rattle.layout.proofs.PointerLaws.{no_block, some_block}
use Rattle.layout.proofs.ZeroLaws.{zero_byte, word_zero}
use Rattle.model.proofs.AttributeLaws.{new_fit}
use Rattle.conspoint.proofs.MapWork.{all_new, Work, own_inode, by_place, not_hole, new_node, old_node, ends, goes_on, node_past, old_stands, old_size, untouched, most_nodes, old_named, same_block, old_once, apart_from_old, node_once, node_below, new_block, spelled, new_stands}

module _ {s : Sizes} {d e : Blocks} {old : Inode} {before after : Draft} {settled places tops : List Pointer} {n : ℕ} (w : Work e before after settled places tops n)
    (is : IsSettledMap s d old before.map settled) (agrees : Agrees (Names (held d old)) d e) where
  -- ---- entries

  block_at : (j : ℕ) → j < n → file_block (held e (own_inode tops before.map.count)) j ≡ pointed e (node_at settled places j)
  unfolding held
  block_at j lt = ap (pointed e) ((new_stands w is agrees).low j lt)

  block_past : (j : ℕ) → n ≤ j → file_block (held e (own_inode tops before.map.count)) j ≡ zeros 4096
  unfolding held
  block_past j ge = ap (pointed e) ((new_stands w is agrees).past j ge)

  old_block_at : (j : ℕ) → j < n → file_block (held d old) j ≡ pointed d (pointer_at settled j)
  unfolding held
  old_block_at j lt =
      let large : 128 < old.size = omega (arith, old_size w is agrees, is.blocks, is.sizes.least_blocks) in
      let body = body_of old.layout old.body s.blocks old.size is.sound.inode.body large in
      ap (λ (b : Body). body_block b (pointed d (place_at_height d old 0 j)) j) body.1 ∙ ap (pointed d) ((old_stands w is agrees).low j lt)

  -- behind the disk's end an entry is 0, and stays
  old_zero : (b : ℕ) → before.map.count ≤ b → settled_at before.map.parts.items b ≡ 0
  unfolding held
  old_zero b ge = is.entries b (λ low. absurd (omega (arith, ge, low))) ∙ word_zero (file_block (held d old) (b / 1024)) (b % 1024) (λ r lt.
      let block : (4 * b + r) / 4096 ≡ b / 1024 = omega arith in
      let at : (4 * b + r) % 4096 ≡ 4 * (b % 1024) + r = omega arith in
      let none : slice_index (file_block (held d old) ((4 * b + r) / 4096)) ((4 * b + r) % 4096) ≡ 0 = is.sound.bytes.ends (4 * b + r) (omega (arith, old_size w is agrees, ge)) in
      sym (ap (λ j. slice_index (file_block (held d old) j) ((4 * b + r) % 4096)) block ∙ ap (slice_index (file_block (held d old) (b / 1024))) at) ∙ none)

  new_zero : (b : ℕ) → before.map.count ≤ b → entry_at after.map.parts.items b ≡ 0
  new_zero b ge = w.changed.past b (omega (arith, ge, w.grows.count)) (w.grows.settled.settled b ∙ old_zero b ge)

  -- an entry that may not be changed is the settled one
  as_settled : (b : ℕ) → (b < before.map.count → IsTouched after.map.parts.items (b / 1024) → ⊥) → entry_at after.map.parts.items b ≡ settled_at before.map.parts.items b
  as_settled b not = elim (cases_lt b before.map.count) [
    | inr ge ↦ new_zero b ge ∙ sym (old_zero b ge)
    | inl lt ↦ elim (cases_eq (entry_at after.map.parts.items b) (settled_at after.map.parts.items b)) [
      | inl same ↦ same ∙ w.grows.settled.settled b
      | inr differ ↦ absurd (not lt (w.changed.within b (omega (arith, lt, w.grows.count)) differ))
    ]
  ]

  entry_in : (b p : ℕ) → b / 1024 < n → node_at settled places (b / 1024) ≡ Block p → map_entry (e p) (b % 1024) ≡ entry_at after.map.parts.items b
  entry_in b p lt at = elim (by_place (pointer_at places (b / 1024))) [
    | inr new ↦
        let there : pointer_at places (b / 1024) ≡ Block p = new.1 ∙ sym (new_node settled places (b / 1024) new.0 new.1) ∙ at in
        (w.stored (b / 1024) p lt there).entries (b % 1024) (omega arith) ∙ ap (entry_at after.map.parts.items) (omega arith)
    | inl none ↦
        let there : pointer_at settled (b / 1024) ≡ Block p = sym (old_node settled places (b / 1024) none) ∙ at in
        let bytes : e p ≡ file_block (held d old) (b / 1024) = same_block w is agrees (b / 1024) p there ∙ sym (old_block_at (b / 1024) lt ∙ ap (pointed d) there) in
        ap (λ (xs : List ℕ). map_entry xs (b % 1024)) bytes ∙ sym (is.entries b (λ low. untouched w is agrees (b / 1024) lt none))
        ∙ sym (as_settled b (λ low touched. w.moved (b / 1024) lt touched none))
  ]

  pub entries_are : (b : ℕ) → map_entry (file_block (held e (own_inode tops before.map.count)) (b / 1024)) (b % 1024) ≡ entry_at after.map.parts.items b
  entries_are b = elim (cases_lt (b / 1024) n) [
    | inl lt ↦
        let at = some_block (node_at settled places (b / 1024)) (new_block w is agrees (b / 1024) lt) in
        ap (λ (xs : List ℕ). map_entry xs (b % 1024)) (block_at (b / 1024) lt ∙ ap (pointed e) at.1) ∙ entry_in b at.0 lt at.1
    | inr ge ↦
        let none : slice_index_or after.map.parts.items (b / 1024) no_part ≡ no_part = get_or_past after.map.parts.items (b / 1024) no_part (omega (arith, w.grows.settled.count, w.parts)) in
        ap (λ (xs : List ℕ). map_entry xs (b % 1024)) (block_past (b / 1024) ge) ∙ word_zero (zeros 4096) (b % 1024) (λ r lt. zero_byte (4 * (b % 1024) + r) 4096)
        ∙ sym (ap (λ (p : Part). slice_index p.entries (b % 1024)) none ∙ get_or_past [] (b % 1024) 0 (omega arith))
  ]

  -- ---- its grammar

  ends_at : EndsAt (4 * before.map.count) (byte_in (file_block (held e (own_inode tops before.map.count))))
  ends_at p ge =
      let b = p / 4 in
      let block : p / 4096 ≡ b / 1024 = omega arith in
      let at : p % 4096 ≡ 4 * (b % 1024) + p % 4 = omega arith in
      let none : entry_at after.map.parts.items b ≡ 0 = new_zero b (omega arith) in
      let blocks = file_block (held e (own_inode tops before.map.count)) in
      ap (λ j. slice_index (blocks j) (p % 4096)) block ∙ ap (slice_index (blocks (b / 1024))) at
      ∙ zero_bytes (blocks (b / 1024)) (b % 1024) (p % 4) (entries_are b ∙ none) (omega arith)

  top_at : (k : ℕ) (p : Pointer) → k < length tops → get_or tops k p ≡ node_at settled places ((if nat_le n 16 then 0 else n) + k)
  top_at k p lt = get_or_default tops k p Hole lt ∙ w.tops_are k

  tops_below : All (PointsBelow s.blocks) tops
  tops_below k p lt = subst (PointsBelow s.blocks) (sym (top_at k p lt)) (node_below w is agrees ((if nat_le n 16 then 0 else n) + k))

  tops_past : (k : ℕ) → pointers_used Plain (4 * before.map.count) ≤ k → pointer_at tops k ≡ Hole
  tops_past k ge = elim (cases_lt 16 n) [
    | inr less ↦
        let t : leb n 16 ≡ true = le-leb _ _ less in
        w.tops_are k ∙ ap (λ b. node_at settled places ((if b then 0 else n) + k)) t
        ∙ node_past w is agrees (0 + k) (omega (arith, ends w is agrees less, used_one Plain (4 * before.map.count) (omega (arith, is.sizes.least_blocks, is.blocks)) (omega (arith, w.count)), w.count))
    | inl many ↦
        let t : leb n 16 ≡ false = lt-leb _ _ many in
        w.tops_are k ∙ ap (λ b. node_at settled places ((if b then 0 else n) + k)) t
        ∙ node_past w is agrees (n + k) (omega (arith, goes_on w is agrees many, used_two Plain (4 * before.map.count) (omega (arith, w.count)) (omega (arith, is.sizes.most_blocks, is.blocks)), w.count))
  ]

  inode_is : IsInode s (own_inode tops before.map.count)
  inode_is = record {
    layout = sym is.plain;
    attributes = new_fit false 0 (omega arith);
    size = omega (arith, w.most);
    kind = (refl, refl, ap (λ x. 4 * x) is.blocks);
    body = (
      omega (arith, is.blocks, is.sizes.least_blocks),
      w.tops_size,
      tops_below,
      λ k p lt. get_or_default (drop (pointers_used Plain (4 * before.map.count)) tops) k p Hole lt ∙ get_or-drop (pointers_used Plain (4 * before.map.count)) tops k Hole
          ∙ tops_past (pointers_used Plain (4 * before.map.count) + k) (omega arith),
    );
  }

  over_long : (x : ℕ) → node_at settled places n ≡ Block x → length (e x) ≡ 4096
  unfolding held
  over_long x at = elim (by_place (pointer_at places n)) [
    | inr new ↦ w.over_size x (new.1 ∙ sym (new_node settled places n new.0 new.1) ∙ at)
    | inl none ↦
        let there : pointer_at settled n ≡ Block x = sym (old_node settled places n none) ∙ at in
        let stood : place_at_height d old 1 0 ≡ Block x = (old_stands w is agrees).top ∙ there in
        ap length (same_block w is agrees n x there ∙ sym (ap (pointed d) stood)) ∙ (is.sound.indirect 0 0 x stood).size
  ]

  over_is : (x : ℕ) → node_at settled places n ≡ Block x → IsIndirectBlock Plain s.blocks (nodes_of_size Plain (4 * before.map.count) 0 - 1024 * 0) (e x)
  unfolding nodes_of_size
  over_is x at = elim (cases_lt 16 n) [
    | inr less ↦ absurd (no_block (node_at settled places n) x (node_past w is agrees n (omega (arith, ends w is agrees less))) at)
    | inl many ↦ record {
      size = over_long x at;
      within = λ i lt. elim (cases_lt i n) [
        | inl low ↦
            let is_node = spelled w is agrees x i many at lt ∙ sym (cond_below i n (node_at settled places i) Hole low) in
            (subst (PointsBelow s.blocks) (sym is_node) (node_below w is agrees i), λ used. absurd (omega (arith, w.count)))
        | inr ge ↦
            let is_hole = spelled w is agrees x i many at lt ∙ sym (cond_above i n (node_at settled places i) Hole Hole ge refl) in
            (subst (PointsBelow s.blocks) (sym is_hole) tt, λ used. is_hole)
      ];
      some = (0, omega arith, λ none. new_block w is agrees 0 (omega arith) (sym (spelled w is agrees x 0 many at (omega arith) ∙ sym (cond_below 0 n (node_at settled places 0) Hole (omega arith))) ∙ none));
    }
  ]

  over_sound : (m i x : ℕ) → (held e (own_inode tops before.map.count)).place (suc m) i ≡ Block x
      → IsIndirectBlock Plain s.blocks (nodes_of_size Plain (4 * before.map.count) m - 1024 * i) ((held e (own_inode tops before.map.count)).bytes (suc m) i)
  unfolding held
  over_sound zero zero x at = subst (IsIndirectBlock Plain s.blocks (nodes_of_size Plain (4 * before.map.count) 0 - 1024 * 0)) (sym (ap (pointed e) at)) (over_is x (sym (new_stands w is agrees).top ∙ at))
  over_sound zero (suc i) x at = absurd (no_block _ x ((new_stands w is agrees).beside i) at)
  over_sound (suc m) i x at = absurd (no_block _ x ((new_stands w is agrees).above m i) at)

  block_size : (k x : ℕ) → k < n → node_at settled places k ≡ Block x → length (e x) ≡ 4096
  unfolding held
  block_size k x lt at = elim (by_place (pointer_at places k)) [
    | inr new ↦ (w.stored k x lt (new.1 ∙ sym (new_node settled places k new.0 new.1) ∙ at)).size
    | inl none ↦
        let there : pointer_at settled k ≡ Block x = sym (old_node settled places k none) ∙ at in
        let stood : place_at_height d old 0 k ≡ Block x = (old_stands w is agrees).low k lt ∙ there in
        ap length (same_block w is agrees k x there ∙ sym (ap (pointed d) stood)) ∙ is.sound.bytes.readable k x stood
  ]

  readable : IsReadable (held e (own_inode tops before.map.count))
  unfolding held
  readable k x at = elim (cases_lt k n) [
    | inl lt ↦ ap length (ap (pointed e) at) ∙ block_size k x lt (sym ((new_stands w is agrees).low k lt) ∙ at)
    | inr ge ↦ absurd (no_block _ x ((new_stands w is agrees).past k ge) at)
  ]

  pub sound_is : IsSoundFile s (held e (own_inode tops before.map.count))
  unfolding held
  sound_is = record { inode = inode_is; indirect = over_sound; bytes = record { readable = readable; ends = ends_at } }

  no_hole : HasNoHole (held e (own_inode tops before.map.count))
  unfolding held nodes_of_size
  no_hole i level lt none = let low : i < n = omega (arith, w.count, lt) in new_block w is agrees i low (sym ((new_stands w is agrees).low i low) ∙ none)

  -- ---- what it names

  module _ (taken freed : ℕ → Bool) (taken_is : (b : ℕ) → taken b ≡ true → (k : ℕ) × (pointer_at places k ≡ Block b)) (taken_all : (k b : ℕ) → pointer_at places k ≡ Block b → taken b ≡ true)
      (freed_is : (b : ℕ) → freed b ≡ true → (k : ℕ) × (pointer_at places k ≢ Hole) × (pointer_at settled k ≡ Block b))
      (freed_all : (k b : ℕ) → pointer_at places k ≢ Hole → pointer_at settled k ≡ Block b → freed b ≡ true) where
    new_named : (k b : ℕ) → node_at settled places k ≡ Block b → Names (held e (own_inode tops before.map.count)) b
    new_named k b at = named_at n (node_at settled places) (held e (own_inode tops before.map.count)) (new_stands w is agrees) k b (elim (cases_lt n k) [
      | inr le ↦ le
      | inl lt ↦ absurd (no_block (node_at settled places k) b (node_past w is agrees k (omega (arith, most_nodes w is agrees))) at)
    ]) at

    moves : (m i b : ℕ) → (held e (own_inode tops before.map.count)).place m i ≡ Block b → ((held d old).place m i ≡ Block b) ⊎ (taken b ≡ true)
    moves m i b at =
        let s = spot_of n (node_at settled places) (held e (own_inode tops before.map.count)) (new_stands w is agrees) m i b at in
        elim (by_place (pointer_at places s.0)) [
          | inl none ↦ inl (at_spot n (pointer_at settled) (held d old) (old_stands w is agrees) m i s.0 b s.1 (sym (old_node settled places s.0 none) ∙ s.2))
          | inr new ↦ inr (taken_all s.0 b (new.1 ∙ sym (new_node settled places s.0 new.0 new.1) ∙ s.2))
        ]

    pub all_taken : AreTouched before.map.parts.items → (b : ℕ) → Names (held e (own_inode tops before.map.count)) b → taken b ≡ true
    all_taken all b names =
        let s = spot_named n (node_at settled places) (held e (own_inode tops before.map.count)) (new_stands w is agrees) b names in
        elim (by_place (pointer_at places s.0)) [
          | inl none ↦ absurd (all_new w is agrees all s.0 b s.2 none)
          | inr new ↦ taken_all s.0 b (new.1 ∙ sym (new_node settled places s.0 new.0 new.1) ∙ s.2)
        ]

    stays : (b : ℕ) → Names (held d old) b → Names (held e (own_inode tops before.map.count)) b ⊎ (freed b ≡ true)
    stays b names =
        let s = spot_named n (pointer_at settled) (held d old) (old_stands w is agrees) b names in
        elim (by_place (pointer_at places s.0)) [
          | inl none ↦ inl (new_named s.0 b (old_node settled places s.0 none ∙ s.2))
          | inr new ↦ inr (freed_all s.0 b (not_hole (pointer_at places s.0) new.0 new.1) s.2)
        ]

    freed_are : (b : ℕ) → freed b ≡ true → Names (held d old) b × (Names (held e (own_inode tops before.map.count)) b → ⊥)
    freed_are b is_freed =
        let f = freed_is b is_freed in (
          old_named w is agrees f.0 b f.2,
          λ names.
              let s = spot_named n (node_at settled places) (held e (own_inode tops before.map.count)) (new_stands w is agrees) b names in
              elim (by_place (pointer_at places s.0)) [
                | inl none ↦
                    let same : s.0 ≡ f.0 = old_once w is agrees s.0 f.0 b (sym (old_node settled places s.0 none) ∙ s.2) f.2 in
                    f.1 (ap (pointer_at places) (sym same) ∙ none)
                | inr new ↦ apart_from_old w is agrees s.0 f.0 b (new.1 ∙ sym (new_node settled places s.0 new.0 new.1) ∙ s.2) f.2
              ],
        )

    once : IsOnce (held e (own_inode tops before.map.count))
    once m i k j b at_m at_k =
        let x = spot_of n (node_at settled places) (held e (own_inode tops before.map.count)) (new_stands w is agrees) m i b at_m in
        let y = spot_of n (node_at settled places) (held e (own_inode tops before.map.count)) (new_stands w is agrees) k j b at_k in
        let same : y.0 ≡ x.0 = node_once w is agrees y.0 x.0 b y.2 x.2 in
        spot_once n m i k j x.0 x.1 (subst (IsSpot n k j) same y.1)

    pub map_stands : IsMapOn s d e old (own_inode tops before.map.count) taken freed (entry_at after.map.parts.items)
    map_stands = record {
      kind = refl;
      entries = entries_are;
      moves = moves;
      named = λ b is_taken. let t = taken_is b is_taken in new_named t.0 b (new_node settled places t.0 b t.1);
      stays = stays;
      freed_are = freed_are;
      once = once;
      sound = sound_is;
      no_hole = no_hole;
    }
