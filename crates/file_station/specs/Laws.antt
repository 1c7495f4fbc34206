-- The laws of a station over two files.
use Rattle.std.specs.Prelude.{◌≡◌, ℕ, List, length, refl}
use Rattle.std.proofs.Common.{inl, ap, ◌∙◌, arith, length-take, length-drop}
use Rattle.station.specs.Images.{Images, sectors_of}
use Rattle.station.specs.Moments.{MayLeave, EachCut, HasSizes}
use Rattle.file_station.specs.Files.{FilesMeaning}
use Rattle.file_station.specs.Stations.{FitStation, station_of}

pub seen_may_be_left : (m : FilesMeaning) (r w : ℕ) → m.disk.left_at m.moment m.disk.seen → m.nvram.left_at m.moment m.nvram.seen → MayLeave (station_of m r w) (station_of m r w).seen
seen_may_be_left m r w disk nvram = (m.disk.seen, m.nvram.seen, disk, nvram, refl)

pub sized : (m : FilesMeaning) (r w : ℕ) → FitStation m → ((f : List ℕ) → m.is_honest → m.disk.left_at m.moment f → length f ≡ m.disk.length)
    → ((f : List ℕ) → m.is_honest → m.nvram.left_at m.moment f → length f ≡ m.nvram.length) → EachCut (station_of m r w) (HasSizes (station_of m r w))
sized m r w fits disk nvram honest c left =
    let is = left.4 in
    record {
      nvram = ap (λ (i : Images). length i.nvram) is ∙ nvram left.1 honest left.3;
      sector = λ n below.
          let long : length left.0 ≡ m.disk.length = disk left.0 honest left.2 in
          let whole : length (sectors_of left.0 n) ≡ 512 = simp (length-take, length-drop) (omega (arith, long, below, fits.whole)) in
          inl (ap (λ (i : Images). length (i.disk n)) is ∙ whole);
    }
