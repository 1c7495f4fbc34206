-- What a root that covers the log's epoch makes of the log.
use Rattle.std.proofs.Common.{◌≡◌, inl, inr, ℕ, ◌+◌, ◌%◌, ◌<◌, ◌^◌, List, [], ◌++◌, take, refl, sym, ap, ◌∙◌, subst, arith}
use Rattle.std.proofs.lemmas.List.{take_at}
use Rattle.byteorder.specs.Endian.{little_bytes, little_number}
use Rattle.byteorder.specs.Numbers.{little_number-reads_back}
use Rattle.layout.specs.Log.{half_at, half_of, opened, IsOpenFor, IsUnopened, EpochHolds}
use Rattle.layout.proofs.LogLemmas.{closed_unopened}
use Rattle.oplog.specs.LogEnd.{LogEnd, Bodies, no_bodies, StandsAt}
use Rattle.oplog.specs.declared.log.End.TheVariants.{Unopened}
use Rattle.oplog.proofs.Records.{length-opened, ends_hold}
use Rattle.oplog.proofs.Writes.{stands_by}

-- a half is open for one epoch
one_epoch : (a b : ℕ) (bytes rest tail : List ℕ) → a < 2 ^ 64 → b < 2 ^ 64 → IsOpenFor a bytes rest → IsOpenFor b bytes tail → a ≡ b
one_epoch a b bytes rest tail fits fits_too is is_too =
    let same : opened a ≡ opened b = sym (take_at (opened a) rest 9 (length-opened a)) ∙ ap (λ (l : List ℕ). take 9 l) (sym is ∙ is_too) ∙ take_at (opened b) tail 9 (length-opened b) in
    let bytes_same : little_bytes 8 a ≡ little_bytes 8 b = cc in
    sym (little_number-reads_back 8 a [] fits) ∙ ap (λ (l : List ℕ). little_number 8 (l ++ [])) bytes_same ∙ little_number-reads_back 8 b [] fits_too

-- a half that holds an epoch isn't open for the next one of its parity
unopened_after : (epoch : ℕ) (bytes : List ℕ) (bodies : List (List ℕ)) → epoch + 2 < 2 ^ 64 → EpochHolds epoch bytes bodies → IsUnopened (epoch + 2) bytes
unopened_after epoch bytes bodies fits (inl is) =
    open_before epoch is.0 is.1 (omega arith) (omega arith)
  where
    open_before : (e : ℕ) (rest : List ℕ) → IsOpenFor e bytes rest → e < epoch + 2 → e % 2 ≡ (epoch + 2) % 2 → IsUnopened (epoch + 2) bytes
    open_before e rest is before parity = record {
      earlier = inr (e, before, parity, rest, is);
      not_open = λ tail later. absurd (omega (arith, one_epoch e (epoch + 2) bytes rest tail (omega (arith, fits, before)) fits is later));
    }
unopened_after epoch bytes bodies fits (inr is) = elim is.0.earlier [
  | inl shut ↦ closed_unopened (epoch + 2) bytes shut
  | inr e ↦ record {
    earlier = inr (e.0, omega (arith, e.1), omega (arith, e.2), e.3, e.4);
    not_open = λ tail later. absurd (omega (arith, one_epoch e.0 (epoch + 2) bytes e.3 tail (omega (arith, fits, e.1)) fits e.4 later));
  }
]

-- epochs of one parity stand in one half
same_half : (half : ℕ) (nvram : List ℕ) (a b : ℕ) → a % 2 ≡ b % 2 → half_of half a nvram ≡ half_of half b nvram
same_half half nvram a b is = ap (λ (r : ℕ). half_at half r nvram) is

-- under a root of the log's epoch, a log that goes to the next epoch holds nothing
pub covered : (log : LogEnd) (g : ℕ) (bodies : Bodies) (nvram : List ℕ) → g < 2 ^ 62 → StandsAt log g bodies nvram
    → StandsAt (record log { epoch = log.epoch + 1; end = Unopened }) log.epoch no_bodies nvram
covered log g bodies nvram fits stands =
    stands_by (record log { epoch = log.epoch + 1; end = Unopened }) log.epoch no_bodies nvram stands.holds.size (next, refl) (inl (refl, after, refl))
  where
    low : log.epoch + 2 < 2 ^ 64
    low = elim stands.other [
      | inl is ↦ omega (arith, is.0)
      | inr is ↦ omega (arith, is.0)
    ]

    next : IsUnopened (log.epoch + 1) (half_of log.half (log.epoch + 1) nvram)
    next = elim stands.other [
      | inl is ↦
          let at : g + 2 ≡ log.epoch + 1 = omega (arith, is.0) in
          subst (λ (e : ℕ). IsUnopened e (half_of log.half e nvram)) at is.1
      | inr is ↦
          let at : g + 1 + 2 ≡ log.epoch + 1 = omega (arith, is.0) in
          subst (λ (e : ℕ). IsUnopened e (half_of log.half e nvram)) at
          (subst (IsUnopened (g + 1 + 2)) (same_half log.half nvram (g + 1) (g + 1 + 2) (omega arith)) (unopened_after (g + 1) (half_of log.half (g + 1) nvram) bodies.older (omega (arith, fits)) is.1))
    ]

    after : IsUnopened (log.epoch + 2) (half_of log.half (log.epoch + 2) nvram)
    after = subst (IsUnopened (log.epoch + 2)) (same_half log.half nvram log.epoch (log.epoch + 2) (omega arith))
        (unopened_after log.epoch (half_of log.half log.epoch nvram) bodies.newest low (ends_hold log.end log.epoch (half_of log.half log.epoch nvram) bodies.newest stands.ends))

-- under a root that covers the older of two epochs, the log holds what stands in the newest
pub older_covered : (log : LogEnd) (g : ℕ) (bodies : Bodies) (nvram : List ℕ) → g < 2 ^ 62 → log.epoch ≡ g + 2 → StandsAt log g bodies nvram
    → StandsAt log (g + 1) (record { older = []; newest = bodies.newest }) nvram
older_covered log g bodies nvram fits second stands =
    stands_by log (g + 1) (record { older = []; newest = bodies.newest }) nvram stands.holds.size stands.ends (inl (omega (arith, second), after, refl))
  where
    after : IsUnopened (g + 1 + 2) (half_of log.half (g + 1 + 2) nvram)
    after = elim stands.other [
      | inl is ↦ absurd (omega (arith, is.0, second))
      | inr is ↦ subst (IsUnopened (g + 1 + 2)) (same_half log.half nvram (g + 1) (g + 1 + 2) (omega arith)) (unopened_after (g + 1) (half_of log.half (g + 1) nvram) bodies.older (omega (arith, fits)) is.1)
    ]
