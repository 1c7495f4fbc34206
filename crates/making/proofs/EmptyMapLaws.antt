-- The block map over nothing: a file of holes, all of whose blocks are to be stored.
use Rattle.std.proofs.Common.{◌≡◌, inl, inr, ℕ, zero, suc, ◌+◌, ◌-◌, ◌*◌, ◌/◌, ◌%◌, ◌<◌, ◌≤◌, Bool, true, false, List, length, drop, get_or, replicate, refl, ap, sym, subst, ◌∙◌, arith}
use Rattle.std.specs.Prelude.{slice_index, nat_lt, if◌then◌else◌}
use Rattle.std.proofs.lemmas.Bool.{cases_lt, cond_above, cond_below, cases_Bool}
use Rattle.std.proofs.lemmas.List.{get_or_default, get_or-drop, get_or-replicate, get_or_past, length-replicate}
use Rattle.model.specs.Attributes.{no_attributes}
use Rattle.model.proofs.AttributeLaws.{new_fit}
use Rattle.layout.specs.Bytes.{zeros}
use Rattle.layout.specs.Inode.{IsInode, pointers_used}
use Rattle.layout.specs.Limits.{AreSizes, Sizes}
use Rattle.layout.specs.Maps.{map_entry}
use Rattle.layout.specs.Places.{Blocks, follow, place, pointed}
use Rattle.layout.specs.Pointer.{PointsBelow}
use Rattle.layout.specs.Trees.{fan_out, has_attributes, level_of}
use Rattle.layout.specs.declared.trees.Layout.{Layout}
use Rattle.layout.specs.declared.trees.Layout.TheVariants.{Plain}
use Rattle.layout.specs.declared.inode.Body.TheVariants.{Pointers}
use Rattle.layout.specs.declared.inode.Inode.{Inode}
use Rattle.layout.specs.declared.kind.Kind.TheVariants as kinds
use Rattle.layout.specs.declared.pointer.Pointer.{Pointer}
use Rattle.layout.specs.declared.pointer.Pointer.TheVariants.{Hole}
use Rattle.blockmap.specs.Maps.{entry_at}
use Rattle.conspoint.specs.Drafts.{HasAll}
use Rattle.conspoint.specs.Groups.{pointer_at}
use Rattle.conspoint.specs.MapFiles.{IsMapOn, IsSettledMap, PlansMap}
use Rattle.conspoint.specs.declared.draft.Draft.{Draft}
use Rattle.images.specs.Nodes.{held, Names, file_block}
use Rattle.images.specs.Soundness.{IsSoundFile}
use Rattle.making.specs.Plans.{HasFile, IsDraftMapOn, IsPlacedOver}
use Rattle.making.specs.Starts.{nothing, system_entry}
use Rattle.inode.proofs.FanLemmas.{greatest_least}
use Rattle.layout.proofs.PointerLaws.{no_block}
use Rattle.layout.proofs.ZeroLaws.{zero_byte, word_zero}

abbrev holes : List Pointer
holes = replicate 16 Hole

-- the inode of a map of holes
abbrev pub no_map : Sizes → Inode
no_map s = record { layout = s.layout; kind = kinds.BlockMap; attributes = no_attributes; links = 1; size = 4 * s.blocks; body = Pointers holes }

hole_at : (i : ℕ) → get_or holes i Hole ≡ Hole
hole_at i = elim (cases_lt i 16) [
  | inl lt ↦ get_or-replicate {A = Pointer} 16 i Hole Hole lt
  | inr ge ↦ get_or_past holes i Hole (omega (arith, ge, length-replicate {A = Pointer} 16 Hole))
]

no_place : (l : Layout) (depth i : ℕ) → place l nothing holes depth i ≡ Hole
unfolding place
no_place l zero i = hole_at i
no_place l (suc depth) i = ap (λ p. follow nothing p (i % fan_out l)) (no_place l depth (i / fan_out l))

hole_or : (t : Bool) (p : Pointer) → p ≡ Hole → (if t then p else Hole) ≡ Hole
hole_or true p is = is
hole_or false p is = refl

pub no_node : (s : Sizes) (m i : ℕ) → (held nothing (no_map s)).place m i ≡ Hole
unfolding held
no_node s m i =
    hole_or (nat_lt m (level_of s.layout (4 * s.blocks))) (place s.layout nothing holes (level_of s.layout (4 * s.blocks) - suc m) i) (no_place s.layout (level_of s.layout (4 * s.blocks) - suc m) i)

pub no_name : (s : Sizes) (b : ℕ) → Names (held nothing (no_map s)) b → ⊥
no_name s b names = no_block ((held nothing (no_map s)).place names.height names.index) b (no_node s names.height names.index) names.is

empty_block : (s : Sizes) (i : ℕ) → file_block (held nothing (no_map s)) i ≡ zeros 4096
unfolding held
empty_block s i = ap (pointed nothing) (no_node s 0 i)

no_map_fits : (s : Sizes) → AreSizes s → IsInode s (no_map s)
no_map_fits s are = record {
  layout = refl;
  attributes = new_fit (has_attributes s.layout) 0 (omega arith);
  size = omega (arith, are.most_blocks, greatest_least s.layout);
  kind = (refl, refl, refl);
  body = (
    omega (arith, are.least_blocks),
    length-replicate {A = Pointer} 16 Hole,
    λ k p lt. subst (PointsBelow s.blocks) (sym (get_or_default holes k p Hole lt ∙ hole_at k)) tt,
    λ k p lt. get_or_default (drop (pointers_used s.layout (4 * s.blocks)) holes) k p Hole lt ∙ get_or-drop (pointers_used s.layout (4 * s.blocks)) holes k Hole ∙ hole_at (pointers_used s.layout (4 * s.blocks) + k),
  );
}

no_map_sound : (s : Sizes) → AreSizes s → IsSoundFile s (held nothing (no_map s))
unfolding held
no_map_sound s are = record {
  inode = no_map_fits s are;
  indirect = λ m i b is. absurd (no_name s b (record { height = suc m; index = i; is = is }));
  bytes = record {
    readable = λ i b is. absurd (no_name s b (record { height = 0; index = i; is = is }));
    ends = λ p past. ap (λ (x : List ℕ). slice_index x (p % 4096)) (empty_block s (p / 4096)) ∙ zero_byte (p % 4096) 4096;
  };
}

pub system_past : (b : ℕ) → 2 ≤ b → system_entry b ≡ 0
system_past b ge = sym (cond_above b 2 2147483648 0 0 ge refl)

pub system_low : (b : ℕ) → b < 2 → system_entry b ≡ 2147483648
system_low b lt = sym (cond_below b 2 2147483648 0 lt)

pub no_settled_map : (s : Sizes) (d : Draft) (nodes : List Pointer) → AreSizes s → s.layout ≡ Plain → IsPlacedOver s.blocks d → ((k : ℕ) → pointer_at nodes k ≡ Hole) → IsSettledMap s nothing (no_map s) d.map nodes
no_settled_map s d nodes are plain over none = record {
  sizes = are;
  plain = plain;
  blocks = over.count;
  kind = refl;
  sound = no_map_sound s are;
  no_hole = λ k lt not. absurd (not (over.touched k lt));
  once = λ m i k j b here there. absurd (no_name s b (record { height = m; index = i; is = here }));
  entries = λ b not. elim (cases_lt b d.map.count) [
    | inl lt ↦ absurd (not lt (over.touched (b / 1024) (omega (arith, lt, over.parts, over.count))))
    | inr ge ↦ over.settled b ∙ system_past b (omega (arith, ge, over.count, are.least_blocks))
        ∙ sym (ap (λ (x : List ℕ). map_entry x (b % 1024)) (empty_block s (b / 1024)) ∙ word_zero (zeros 4096) (b % 1024) (λ r lt. zero_byte (4 * (b % 1024) + r) 4096))
  ];
  used = λ b names. absurd (no_name s b names);
  lowest = λ k lt. none k ∙ sym (no_node s 0 k);
  over = λ level. none (length d.map.parts.items) ∙ sym (no_node s 1 0);
}

module _ (s : Sizes) (old new : Draft) (nodes : List Pointer) (f : Inode) (are : AreSizes s) (plain : s.layout ≡ Plain) (over : IsPlacedOver s.blocks old) (none : (k : ℕ) → pointer_at nodes k ≡ Hole) (plan : PlansMap old new nodes f)
    (some : Blocks) (has_some : HasAll some new.blocks.items) where
  on : (e : Blocks) → HasAll e new.blocks.items → IsMapOn s nothing e (no_map s) f plan.taken plan.freed (entry_at new.map.parts.items)
  on e has = plan.stands e has s nothing (no_map s) (no_settled_map s old nodes are plain over none) (λ b names. absurd (no_name s b names))

  -- nothing is freed
  kept : (b : ℕ) → plan.freed b ≡ false
  kept b = elim (cases_Bool (plan.freed b)) [
    | inl is ↦ absurd (no_name s b ((on some has_some).freed_are b is).0)
    | inr isnt ↦ isnt
  ]

  pub map_file : HasFile s old new f
  map_file = record {
    taken = plan.taken;
    given = plan.was_taken;
    active = λ b. (
      λ has. elim ((plan.active b).0 has) [ inl was ↦ inl was.0 | inr is ↦ inr is ],
      λ either. (plan.active b).1 (elim either [ inl was ↦ inl (was, kept b) | inr is ↦ inr is ]),
    );
    others = plan.others;
    stands = λ e has one.
        let m = on e has in
        record {
          named = λ b. (λ names. elim (m.moves names.height names.index b names.is) [ inl was ↦ absurd (no_name s b (record { height = names.height; index = names.index; is = was })) | inr is ↦ is ], m.named b);
          once = m.once;
          sound = m.sound;
        };
  }

  pub map_on : (e : Blocks) → HasAll e new.blocks.items → IsDraftMapOn e new f
  map_on e has = let m = on e has in record { kind = m.kind; whole = m.no_hole; entries = m.entries }
