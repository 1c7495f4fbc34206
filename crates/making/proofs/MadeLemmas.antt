-- A new image opens to an empty state.
use Rattle.std.proofs.Common.{◌≡◌, inl, inr, ℕ, ◌*◌, ◌<◌, List, [], ◌∷◌, length, refl, ap, sym, ◌∙◌, subst, arith}
use Rattle.std.specs.Prelude.{replicate, slice_index}
use Rattle.layout.specs.StateLimits.{limits_of}
use Rattle.station.specs.Images.{Images}
use Rattle.model.specs.States.{empty}
use Rattle.layout.specs.Limits.{Sizes}
use Rattle.layout.specs.Log.{LogHolds, IsUnopened, IsOpenFor, IsClosed, half_at}
use Rattle.layout.specs.Opens.{IsNewest}
use Rattle.layout.specs.Places.{blocks_of}
use Rattle.layout.specs.Root.{root_bytes, head_bytes}
use Rattle.layout.specs.declared.TheConstants.{SLOT_A, SLOT_B}
use Rattle.layout.specs.declared.root.Root.{Root}
use Rattle.images.specs.FirstRoots.{root_alone_volume}
use Rattle.images.specs.Roots.{whole}
use Rattle.images.specs.States.{HasReserve, Holds, OpensBy}
use Rattle.conspoint.specs.Cuts.{IsOutside}
use Rattle.conspoint.specs.Drafts.{HasAll}
use Rattle.conspoint.specs.Plans.{Planned}
use Rattle.making.specs.Images.{HasClosedHalves, HoldsMade, IsWritten}
use Rattle.making.specs.Plans.{IsFirstPoint}

-- a root begins with a letter, so no root is all zeros
zeros_no_root : (r : Root) → replicate 512 0 ≡ root_bytes r → {X : Type 0} → X
unfolding head_bytes
zeros_no_root r e = let first : 0 ≡ 87 = ap (λ (l : List ℕ). slice_index l 0) e in absurd (omega (arith, first))

closed_not_open : (epoch : ℕ) (bytes rest : List ℕ) → IsClosed bytes → IsOpenFor epoch bytes rest → ⊥
closed_not_open epoch bytes rest shut is = let e : 0 ∷ shut.0 ≡ bytes = sym shut.1 in cc

-- a log of which both halves are closed
empty_log : (half g : ℕ) (nvram : List ℕ) → g ≡ 1 → length nvram ≡ 2 * half → HasClosedHalves half nvram → LogHolds half g nvram []
empty_log half g nvram is size closed = subst (λ (n : ℕ). LogHolds half n nvram []) (sym is) (record {
  size = size;
  first = [];
  second = [];
  in_order = refl;
  first_held = inr (unopened 2 0 (omega arith), refl);
  second_held = inr (unopened 3 1 (omega arith), refl);
})
  where
    unopened : (epoch r : ℕ) → r < 2 → IsUnopened epoch (half_at half r nvram)
    unopened epoch r low = record {
      earlier = inl (closed r low);
      not_open = λ rest is. closed_not_open epoch (half_at half r nvram) rest (closed r low) is;
    }

module _ (s : Sizes) (p : Planned) (r : Root) (is : IsFirstPoint s p r) (c : Images) (w : IsWritten s.half p c) where
  in_a : c.disk SLOT_A ≡ root_bytes r
  in_a = ap c.disk (sym is.slot) ∙ w.written.root ∙ is.bytes

  outside : IsOutside p.blocks SLOT_B
  outside = λ i d lt e. let behind = is.behind i d lt in absurd (omega (arith, behind, e))

  in_b : c.disk SLOT_B ≡ replicate 512 0
  in_b = w.written.disk SLOT_B outside (λ e. let slot = is.slot in absurd (omega (arith, e, slot))) ∙ w.cleared.slots.second

  closed : HasClosedHalves s.half c.nvram
  closed = subst (HasClosedHalves s.half) (sym w.written.nvram) w.cleared.halves

  pub made : HoldsMade s c
  made = record {
    root = r;
    first = record { root = is.root; spelled = in_a };
    generation = is.generation;
    geometry = is.geometry;
    second = in_b;
    halves = closed;
  }

  newest : IsNewest r (c.disk SLOT_A) (c.disk SLOT_B)
  newest = inl (record { root = is.root; spelled = in_a }, λ other it. zeros_no_root other (sym in_b ∙ it.spelled))

  module _ (sectors : ℕ) where
    has_all : HasAll (blocks_of c.disk) p.blocks
    has_all = λ i d lt. sym (w.written.blocks i d lt)

    pub opens : sectors ≡ 8 * s.blocks → length c.nvram ≡ 2 * s.half
        → ((n : ℕ) (disk : ℕ → List ℕ) (nvram : List ℕ) (q : Root) → IsNewest q (disk SLOT_A) (disk SLOT_B) → n ≡ 8 * q.geometry.blocks → Holds q (whole (blocks_of disk) q) root_alone_volume []
        → HasReserve q (whole (blocks_of disk) q) root_alone_volume [] → LogHolds q.geometry.half q.generation nvram [] → OpensBy n disk nvram (empty (limits_of q.geometry)) [])
        → OpensBy sectors c.disk c.nvram (empty (limits_of s)) []
    opens size nvram law =
        subst (λ (t : Sizes). OpensBy sectors c.disk c.nvram (empty (limits_of t)) []) is.geometry
        (law sectors c.disk c.nvram r newest (size ∙ ap (λ (t : Sizes). 8 * t.blocks) (sym is.geometry)) (is.holds (blocks_of c.disk) has_all) (is.room (blocks_of c.disk) has_all)
        (subst (λ (t : Sizes). LogHolds t.half r.generation c.nvram []) (sym is.geometry) (empty_log s.half r.generation c.nvram is.generation nvram closed)))
