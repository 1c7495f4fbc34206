-- What each write of an append does to the log.
use Rattle.std.proofs.Common.{◌≡◌, ◌≢◌, inl, inr, ℕ, ◌+◌, ◌*◌, ◌%◌, ◌<◌, ◌≤◌, List, [], ◌∷◌, ◌++◌, length, take, refl, sym, ap, ◌∙◌, subst, arith, length-append, length-take}
use Rattle.std.proofs.lemmas.List.{append-nil}
use Rattle.byteorder.specs.Numbers.{length-bytes_low_first}
use Rattle.byteorder.specs.Endian.{little_bytes}
use Rattle.station.specs.Images.{nvram_with}
use Rattle.station.specs.Moments.{Meaning}
use Rattle.layout.specs.Log.{half_of, records_of, IsClosed, EpochHolds, IsUnopened, LogHolds}
use Rattle.oplog.specs.LogEnd.{LogEnd, Bodies, all_bodies, with_bodies, behind_records, EndsBehind, OtherHolds, StandsAt, LogStands, AllOrNone}
use Rattle.oplog.specs.Batches.{AreBehind}
use Rattle.oplog.specs.Internal.{start_of}
use Rattle.oplog.specs.declared.log.End.{End}
use Rattle.oplog.specs.declared.log.End.TheVariants.{Unopened, At}
use Rattle.oplog.proofs.Halves.{same_half, other_half, size_stays}
use Rattle.oplog.proofs.Records.{front, ends_hold, staged, still_ends, gate_opened, closed_ends, header_closed, behind_header, header_opened}
use Rattle.oplog.proofs.Runs.{Step, one_byte, Run, begun}

-- what the half of the log's epoch ends with, and what the other one holds, are what the log holds
pub stands_by : (log : LogEnd) (g : ℕ) (bodies : Bodies) (nvram : List ℕ) → length nvram ≡ 2 * log.half
    → EndsBehind log.end log.epoch (half_of log.half log.epoch nvram) bodies.newest → OtherHolds log g nvram bodies.older → StandsAt log g bodies nvram
stands_by log g bodies nvram size ends other = record { holds = holds; ends = ends; other = other }
  where
    here : EpochHolds log.epoch (half_of log.half log.epoch nvram) bodies.newest
    here = ends_hold log.end log.epoch (half_of log.half log.epoch nvram) bodies.newest ends

    at : (epoch : ℕ) → log.epoch ≡ epoch → EpochHolds epoch (half_of log.half epoch nvram) bodies.newest
    at epoch is = subst (λ (e : ℕ). EpochHolds e (half_of log.half e nvram) bodies.newest) is here

    holds : LogHolds log.half g nvram (all_bodies bodies)
    holds = elim other [
      | inl is ↦ record {
        size = size;
        first = bodies.newest;
        second = [];
        in_order = ap (λ (l : List (List ℕ)). l ++ bodies.newest) is.2 ∙ sym (append-nil bodies.newest);
        first_held = at (g + 1) is.0;
        second_held = inr (is.1, refl);
      }
      | inr is ↦ record { size = size; first = bodies.older; second = bodies.newest; in_order = refl; first_held = is.1; second_held = at (g + 2) is.0 }
    ]

-- a write within the half of the log's epoch, which then ends like this
pub written : (log : LogEnd) (g : ℕ) (bodies : Bodies) (nvram : List ℕ) → StandsAt log g bodies nvram → (place at : ℕ) (new : List ℕ) (end : End) (newest : List (List ℕ))
    → place ≡ start_of log + at → at + length new ≤ log.half → EndsBehind end log.epoch (nvram_with at new (half_of log.half log.epoch nvram)) newest
    → StandsAt (record log { end = end }) g (record bodies { newest = newest }) (nvram_with place new nvram)
written log g bodies nvram stands place at new end newest here fits ends =
    subst (λ (p : ℕ). StandsAt (record log { end = end }) g (record bodies { newest = newest }) (nvram_with p new nvram)) (sym here)
    (stands_by (record log { end = end }) g (record bodies { newest = newest }) later (size_stays log.half at (log.epoch % 2) nvram new stands.holds.size fits low) ends_now other)
  where
    low : log.epoch % 2 < 2
    low = omega arith

    later : List ℕ
    later = nvram_with (log.half * (log.epoch % 2) + at) new nvram

    ends_now : EndsBehind end log.epoch (half_of log.half log.epoch later) newest
    ends_now = subst (λ (l : List ℕ). EndsBehind end log.epoch l newest) (sym (same_half log.half at (log.epoch % 2) nvram new stands.holds.size fits low)) ends

    stays : (e : ℕ) → e % 2 ≢ log.epoch % 2 → half_of log.half e later ≡ half_of log.half e nvram
    stays e differ = other_half log.half at (log.epoch % 2) nvram new stands.holds.size fits low (e % 2) (omega arith) differ

    other : OtherHolds log g later bodies.older
    other = elim stands.other [
      | inl is ↦ inl (is.0, subst (IsUnopened (g + 2)) (sym (stays (g + 2) (omega (arith, is.0)))) is.1, is.2)
      | inr is ↦ inr (is.0, subst (λ (l : List ℕ). EpochHolds (g + 1) l bodies.older) (sym (stays (g + 1) (omega (arith, is.0)))) is.1)
    ]

-- THE TWO WRITES OF RECORDS, to a half whose next gate stands at this place

module _ (log : LogEnd) (g next gate : ℕ) (bodies : Bodies) (more : List (List ℕ)) (bytes : List ℕ) (are : AreBehind more bytes) (fits : next + 1 + length bytes ≤ log.half) (here : gate ≡ start_of log + next) where
  abbrev pub Before : List ℕ → Type 0
  Before = StandsAt (record log { end = At next }) g bodies

  abbrev pub With : List ℕ → Type 0
  With = StandsAt (behind_records (record log { end = At next }) more) g (with_bodies bodies more)

  abbrev pub Either : List ℕ → Type 0
  Either = AllOrNone log.half g bodies more

  -- these bytes stand behind the closed gate
  pub record Staged (n : List ℕ) : Type 0 where
    pub stands : Before n
    pub rest : List ℕ
    pub half_is : half_of log.half log.epoch n ≡ front log.epoch bodies.newest ++ 0 ∷ (bytes ++ rest)

  stays : (n new : List ℕ) → length new ≤ length bytes → Before n → Before (nvram_with (gate + 1) new n)
  stays n new short s =
      let half = half_of log.half log.epoch n in
      let later = staged log.epoch next half bodies.newest s.ends new in
      written (record log { end = At next }) g bodies n s (gate + 1) (next + 1) new (At next) bodies.newest (omega (arith, here)) (omega (arith, fits, short))
      (still_ends log.epoch next half bodies.newest s.ends (nvram_with (next + 1) new half) (new ++ later.0) later.1)

  behind_written : Step Either Before Staged (gate + 1) bytes
  behind_written = record {
    while = λ n k le s. inl (stays n (take k bytes) (omega (arith, le, length-take k bytes)) s).holds;
    after = λ n s.
        let half = half_of log.half log.epoch n in
        let later = staged log.epoch next half bodies.newest s.ends bytes in
        let place : gate + 1 ≡ start_of log + (next + 1) = omega (arith, here) in
        let same : half_of log.half log.epoch (nvram_with (gate + 1) bytes n) ≡ nvram_with (next + 1) bytes half =
        ap (λ (p : ℕ). half_of log.half log.epoch (nvram_with p bytes n)) place
        ∙ same_half log.half (next + 1) (log.epoch % 2) n bytes s.holds.size (omega (arith, fits)) (omega arith) in
        record { stands = stays n bytes (omega arith) s; rest = later.0; half_is = same ∙ later.1 };
  }

  gate_written : Step Either Staged With gate (1 ∷ [])
  gate_written =
      one_byte Either Staged With gate 1 (λ n s. inl s.stands.holds) (λ n s. inr s.holds)
      (λ n s. written (record log { end = At next }) g bodies n s.stands gate next (1 ∷ []) (At (next + length (records_of more))) (bodies.newest ++ more) here (omega (arith, fits))
      (gate_opened log.epoch next (half_of log.half log.epoch n) bodies.newest s.stands.ends (half_of log.half log.epoch n) more bytes s.rest are s.half_is))

  -- what was left before, and the two writes
  pub record RecordWrites (m : Meaning) : Type 0 where
    pub begin : Run Either Before m m
    pub staging : Step Either Before Staged (gate + 1) bytes
    pub counting : Step Either Staged With gate (1 ∷ [])

  pub record_writes : (m : Meaning) → LogStands m (record log { end = At next }) g bodies → RecordWrites m
  record_writes m stands = record {
    begin = begun Either Before m (λ n s. inl s.holds) stands;
    staging = behind_written;
    counting = gate_written;
  }

-- THE THREE WRITES THAT OPEN A HALF, which begins at this place

module _ (log : LogEnd) (g start : ℕ) (bodies : Bodies) (room : 10 ≤ log.half) (here : start ≡ start_of log) where
  abbrev pub Closed : List ℕ → Type 0
  Closed = StandsAt (record log { end = Unopened }) g bodies

  abbrev pub Opened : List ℕ → Type 0
  Opened = StandsAt (record log { end = At 9 }) g bodies

  -- the log holds what it held
  abbrev pub Holds : List ℕ → Type 0
  Holds n = LogHolds log.half g n (all_bodies bodies)

  -- the header's gate is closed
  pub record Shut (n : List ℕ) : Type 0 where
    pub stands : Closed n
    pub shut : IsClosed (half_of log.half log.epoch n)

  -- and the epoch stands behind it, with a closed gate
  pub record Prepared (n : List ℕ) : Type 0 where
    pub shut : Shut n
    pub rest : List ℕ
    pub half_is : half_of log.half log.epoch n ≡ 0 ∷ ((little_bytes 8 log.epoch ++ 0 ∷ []) ++ rest)

  -- a write that leaves the header's gate closed
  shut_by : (n new : List ℕ) (place at : ℕ) → Closed n → place ≡ start_of log + at → at + length new ≤ log.half
      → IsClosed (nvram_with at new (half_of log.half log.epoch n)) → Shut (nvram_with place new n)
  shut_by n new place at s is fits shut =
      let same : half_of log.half log.epoch (nvram_with place new n) ≡ nvram_with at new (half_of log.half log.epoch n) =
      ap (λ (p : ℕ). half_of log.half log.epoch (nvram_with p new n)) is
      ∙ same_half log.half at (log.epoch % 2) n new s.holds.size fits (omega arith) in
      record {
        stands = written (record log { end = Unopened }) g bodies n s place at new Unopened bodies.newest is fits
            (subst (EndsBehind Unopened log.epoch (nvram_with at new (half_of log.half log.epoch n))) (sym s.ends.1) (closed_ends log.epoch (nvram_with at new (half_of log.half log.epoch n)) shut));
        shut = subst IsClosed (sym same) shut;
      }

  gate_closed : Step Holds Closed Shut (start + 0) (0 ∷ [])
  gate_closed =
      one_byte Holds Closed Shut (start + 0) 0 (λ n s. s.holds) (λ n s. s.stands.holds)
      (λ n s. shut_by n (0 ∷ []) (start + 0) 0 s (omega (arith, here)) (omega (arith, room)) (header_closed (half_of log.half log.epoch n)))

  nine : length (little_bytes 8 log.epoch ++ 0 ∷ []) ≡ 9
  nine = omega (arith, length-append (little_bytes 8 log.epoch) (0 ∷ []), length-bytes_low_first 0 8 log.epoch)

  still_shut : (n new : List ℕ) → length new ≤ 9 → Shut n → Shut (nvram_with (start + 1) new n)
  still_shut n new short s =
      let later = behind_header (half_of log.half log.epoch n) new s.shut in
      shut_by n new (start + 1) 1 s.stands (omega (arith, here)) (omega (arith, room, short)) (new ++ later.0, later.1)

  epoch_written : Step Holds Shut Prepared (start + 1) (little_bytes 8 log.epoch ++ 0 ∷ [])
  epoch_written =
      let new = little_bytes 8 log.epoch ++ 0 ∷ [] in
      record {
        while = λ n k le s. (still_shut n (take k new) (omega (arith, nine, length-take k new)) s).stands.holds;
        after = λ n s.
            let later = behind_header (half_of log.half log.epoch n) new s.shut in
            let place : start + 1 ≡ start_of log + 1 = omega (arith, here) in
            let same : half_of log.half log.epoch (nvram_with (start + 1) new n) ≡ nvram_with 1 new (half_of log.half log.epoch n) =
            ap (λ (p : ℕ). half_of log.half log.epoch (nvram_with p new n)) place
            ∙ same_half log.half 1 (log.epoch % 2) n new s.stands.holds.size (omega (arith, nine, room)) (omega arith) in
            record { shut = still_shut n new (omega (arith, nine)) s; rest = later.0; half_is = same ∙ later.1 };
      }

  gate_opened_again : Step Holds Prepared Opened (start + 0) (1 ∷ [])
  gate_opened_again =
      one_byte Holds Prepared Opened (start + 0) 1 (λ n s. s.shut.stands.holds) (λ n s. s.holds)
      (λ n s. written (record log { end = Unopened }) g bodies n s.shut.stands (start + 0) 0 (1 ∷ []) (At 9) bodies.newest (omega (arith, here)) (omega (arith, room))
      (subst (EndsBehind (At 9) log.epoch (nvram_with 0 (1 ∷ []) (half_of log.half log.epoch n))) (sym s.shut.stands.ends.1) (header_opened log.epoch (half_of log.half log.epoch n) s.rest s.half_is)))

  -- what was left before, and the three writes
  pub record OpeningWrites (bytes : List ℕ) (m : Meaning) : Type 0 where
    pub begin : Run Holds Closed m m
    pub closing : Step Holds Closed Shut (start + 0) (0 ∷ [])
    pub preparing : Step Holds Shut Prepared (start + 1) bytes
    pub opening : Step Holds Prepared Opened (start + 0) (1 ∷ [])

  pub opening_writes : (bytes : List ℕ) → bytes ≡ little_bytes 8 log.epoch ++ 0 ∷ [] → (m : Meaning) → LogStands m (record log { end = Unopened }) g bodies → OpeningWrites bytes m
  opening_writes bytes is m stands = record {
    begin = begun Holds Closed m (λ n s. s.holds) stands;
    closing = gate_closed;
    preparing = subst (Step Holds Shut Prepared (start + 1)) (sym is) epoch_written;
    opening = gate_opened_again;
  }
