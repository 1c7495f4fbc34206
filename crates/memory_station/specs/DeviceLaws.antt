-- What holds of a device after any calls: the proofs of the laws of a station in memory.
use Rattle.std.specs.Prelude.{◌≡◌, ℕ, suc, ◌*◌, true, false, List, [], ◌∷◌, ◌++◌, length, refl, ◌+◌, ◌≤◌, if◌then◌else◌, ◌==◌, All}
use Rattle.std.proofs.Common.{inl, inr, ap, subst, ◌∙◌, arith, length-take, length-drop}
use Rattle.std.proofs.lemmas.List.Elements.{All-head, All-tail}
use Rattle.station.specs.Images.{Images, Sector, sector_with, unreadable, part_of, reaches, sectors_of}
use Rattle.memory_station.specs.Device.{Device, after, after_all, IsOneOf, MayBeLeft, LeftAt}
use Rattle.memory_station.specs.Disk.{is_bad, sectors_with}
use Rattle.memory_station.specs.Sectors.{sectors_at}
use Rattle.memory_station.specs.Sim.{sim_meaning, device_of}
use Rattle.station.specs.Moments.{MayLeave, EachCut, HasSizes, IsSector}
use Rattle.memory_station.specs.Unsynced.{written_to, IsInRange}
use Rattle.memory_station.specs.declared.history.Call.{Call}
use Rattle.memory_station.specs.declared.history.SectorWrite.{SectorWrite}
use Rattle.memory_station.specs.declared.history.Call.TheVariants.{Read, Write, NvWrite, Sync}
use Rattle.memory_station.specs.declared.sim.Sim.{Sim}

-- what may be left at the end of these calls
pub LeftAt-end : (d : Device) (calls : List Call) (c : Images) → LeftAt d calls (2 * length calls) c → MayBeLeft (after_all d calls) c
unfolding LeftAt after_all
LeftAt-end d [] c left = left
LeftAt-end d (call ∷ calls) c left = LeftAt-end (after d call) calls c (subst (λ t. LeftAt d (call ∷ calls) t c) (twice-suc (length calls)) left)
  where
    twice-suc : (n : ℕ) → 2 * suc n ≡ suc (suc (2 * n))
    twice-suc n = omega arith

pub LeftAt-at_end : (d : Device) (calls : List Call) (c : Images) → MayBeLeft (after_all d calls) c → LeftAt d calls (2 * length calls) c
unfolding LeftAt after_all
LeftAt-at_end d [] c left = left
LeftAt-at_end d (call ∷ calls) c left = subst (λ t. LeftAt d (call ∷ calls) t c) (suc-twice (length calls)) (LeftAt-at_end (after d call) calls c left)
  where
    suc-twice : (n : ℕ) → suc (suc (2 * n)) ≡ 2 * suc n
    suc-twice n = omega arith

-- what reads give is among what a cut may leave
abbrev pub SeenIsHeld : Device → Type 0
SeenIsHeld d = (n : ℕ) → IsOneOf (d.seen n) (d.held n)

pub IsOneOf-old : (x : Sector) (xs : List Sector) (y : Sector) → IsOneOf x xs → IsOneOf x (xs ++ y ∷ [])
IsOneOf-old x (z ∷ xs) y one = elim one [ inl e ↦ inl e | inr later ↦ inr (IsOneOf-old x xs y later) ]
IsOneOf-old x [] y one = absurd one

pub IsOneOf-last : (x : Sector) (xs : List Sector) → IsOneOf x (xs ++ x ∷ [])
IsOneOf-last x [] = inl refl
IsOneOf-last x (z ∷ xs) = inr (IsOneOf-last x xs)

pub SeenIsHeld-after : (d : Device) (call : Call) → SeenIsHeld d → SeenIsHeld (after d call)
unfolding after
SeenIsHeld-after d Read held = held
SeenIsHeld-after d (NvWrite at bytes kept) held = held
SeenIsHeld-after d (Sync true) held = λ n. inl refl
SeenIsHeld-after d (Sync false) held = held
SeenIsHeld-after d (Write first bytes true) held = λ n.
    elim (reaches first bytes.items n) as (λ b. IsOneOf (if b then part_of first bytes.items n else d.seen n) (if b then d.held n ++ part_of first bytes.items n ∷ [] else d.held n)) [
      | true ↦ IsOneOf-last (part_of first bytes.items n) (d.held n)
      | false ↦ held n
    ]
SeenIsHeld-after d (Write first bytes false) held = λ n.
    elim (reaches first bytes.items n) as (λ b. IsOneOf (d.seen n) (if b then d.held n ++ part_of first bytes.items n ∷ [] else d.held n)) [
      | true ↦ IsOneOf-old (d.seen n) (d.held n) (part_of first bytes.items n) (held n)
      | false ↦ held n
    ]

pub SeenIsHeld-after_all : (d : Device) (calls : List Call) → SeenIsHeld d → SeenIsHeld (after_all d calls)
unfolding after_all
SeenIsHeld-after_all d [] held = held
SeenIsHeld-after_all d (call ∷ calls) held = SeenIsHeld-after_all (after d call) calls (SeenIsHeld-after d call held)

pub seen_is_held : (s : Sim) → SeenIsHeld (device_of s)
seen_is_held s = SeenIsHeld-after_all _ s.media.calls.items (λ n. inl refl)

-- all that sector n may hold are sectors, where its settled value is one and each write is of whole
-- sectors
IsOneOf-whole : (size n : ℕ) (x v : Sector) (ws : List SectorWrite) → IsSector v → All (IsInRange size) ws → IsOneOf x (v ∷ written_to n ws) → IsSector x
unfolding written_to
IsOneOf-whole size n x v [] whole each one = elim one [ inl e ↦ rw e whole | inr none ↦ absurd none ]
IsOneOf-whole size n x v (w ∷ ws) whole each one =
    let first = All-head (IsInRange size) w ws each in
    let later = All-tail (IsInRange size) w ws each in
    elim (w.sector == n) as (λ b. IsOneOf x (v ∷ (if b then sector_with w.bytes ∷ written_to n ws else written_to n ws)) → IsSector x) [
      | true ↦ λ it. elim it [ inl e ↦ rw e whole | inr rest ↦ IsOneOf-whole size n x w.bytes ws (inl first.1) later rest ]
      | false ↦ λ it. IsOneOf-whole size n x v ws whole later it
    ] one

-- what a sector of a disk holds is one
sectors_with-sector : (disk bad : List ℕ) (n : ℕ) → 512 * n + 512 ≤ length disk → IsSector (sectors_with disk bad n)
sectors_with-sector disk bad n within = elim (is_bad bad n) as (λ b. IsSector (if b then unreadable else sectors_of disk n)) [
  | true ↦ inr refl
  | false ↦ inl (simp (length-take, length-drop) (omega (arith, within)))
]

-- the laws
pub seen_may_be_left : (s : Sim) → MayLeave (sim_meaning s) (sim_meaning s).seen
seen_may_be_left s = LeftAt-at_end _ s.media.calls.items _ record { disk = λ n. inl (seen_is_held s n); nvram = refl }

pub sized : (s : Sim) → EachCut (sim_meaning s) (HasSizes (sim_meaning s))
sized s honest c left =
    let now = LeftAt-end _ s.media.calls.items c left in
    record {
      nvram = ap length (now.nvram ∙ s.media.tied.nvram_is) ∙ s.media.nvram_size;
      sector = λ n below. elim (now.disk n) [
        | inl is ↦ (
            let one : IsOneOf (c.disk n) (sectors_at s.media.settled n ∷ written_to n s.media.unsynced.items) = rw s.media.tied.held at is in
            let whole = sectors_with-sector s.media.settled.bytes.items s.media.settled.bad.items n (omega (arith, s.media.settled_size, below)) in
            IsOneOf-whole (512 * s.media.sectors) n (c.disk n) (sectors_at s.media.settled n) s.media.unsynced.items whole s.media.in_range one)
        | inr lost ↦ inr lost.0
      ];
    }
