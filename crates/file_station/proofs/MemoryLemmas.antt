-- Calls on two files in memory.
use Rattle.std.proofs.Common.{◌≡◌, inl, inr, ℕ, List, [], ◌∷◌, ◌++◌, length, take, refl, ap, sym, subst, ◌∙◌, arith, length-append, take_all, append-nil, take-append-drop, add-zero}
use Rattle.std.proofs.lemmas.List.{take-append-le}
use Rattle.std.proofs.lemmas.List.Sums.{fold-append}
use Rattle.file_station.specs.Files.{FileWent, FilesGo, disk_step, nvram_step, file_with}
use Rattle.file_station.specs.Memory.{written_file, file_after, contents_after, IsAdded}
use Rattle.file_station.specs.MemoryMeaning.{file_known, known_files}
use Rattle.file_station.specs.declared.image_files.Part.{Part}
use Rattle.file_station.specs.declared.image_files.Part.TheVariants.{Disk, Nvram}
use Rattle.file_station.specs.declared.memory_files.FileWrite.{FileWrite}

-- no write
pub goes_none : (disk nvram : List ℕ) (ws : List FileWrite) (on_disk on_nvram : List ℕ → List ℕ → Type 0) → ((f : List ℕ) → on_disk f f) → ((f : List ℕ) → on_nvram f f) → FilesGo on_disk on_nvram (known_files disk nvram ws) (known_files disk nvram ws)
goes_none disk nvram ws on_disk on_nvram d n honest = record {
  honest = tt;
  later = omega arith;
  disk = stays on_disk d Disk disk;
  nvram = stays on_nvram n Nvram nvram;
}
  where
    stays : (step : List ℕ → List ℕ → Type 0) → ((f : List ℕ) → step f f) → (part : Part) (first : List ℕ) → FileWent step (length ws) (length ws) (file_known part first ws) (file_known part first ws)
    stays step same part first = record {
      kept = λ t f early. (λ left. left, λ left. left);
      added = λ t f late soon left. absurd (omega arith);
      now = λ f left. (f, left, same f);
      seen = same _;
    }

contents-push : (part : Part) (first : List ℕ) (ws : List FileWrite) (w : FileWrite) → contents_after part first (ws ++ w ∷ []) ≡ file_after part (contents_after part first ws) w
unfolding contents_after
contents-push part first ws w = fold-append (file_after part) first ws (w ∷ [])

-- one write more: what it does to a file
file_goes : (step : List ℕ → List ℕ → Type 0) (part : Part) (first : List ℕ) (ws : List FileWrite) (w : FileWrite) → ((f : List ℕ) → step f (file_after part f w))
    → FileWent step (length ws) (length (ws ++ w ∷ [])) (file_known part first ws) (file_known part first (ws ++ w ∷ []))
file_goes step part first ws w does = record {
  kept = λ t f early.
      let same : take t (ws ++ w ∷ []) ≡ take t ws = take-append-le t ws (w ∷ []) early in
      (λ left. left ∙ ap (contents_after part first) same, λ left. left ∙ ap (contents_after part first) (sym same));
  added = λ t f late soon left.
      let all : take t (ws ++ w ∷ []) ≡ ws ++ w ∷ [] = take_all t (ws ++ w ∷ []) (omega (arith, late, length-append ws (w ∷ []))) in
      after f (left ∙ ap (contents_after part first) all);
  now = λ f left.
      let all : take (length (ws ++ w ∷ [])) (ws ++ w ∷ []) ≡ ws ++ w ∷ [] = take_all (length (ws ++ w ∷ [])) (ws ++ w ∷ []) (omega arith) in
      after f (left ∙ ap (contents_after part first) all);
  seen = subst (step (contents_after part first ws)) (sym (contents-push part first ws w)) (does (contents_after part first ws));
}
  where
    after : (f : List ℕ) → f ≡ contents_after part first (ws ++ w ∷ []) → (e : List ℕ) × (e ≡ contents_after part first (take (length ws) ws)) × step e f
    after f is = (
      contents_after part first ws,
      ap (contents_after part first) (sym (take_all (length ws) ws (omega arith))),
      subst (step (contents_after part first ws)) (sym (is ∙ contents-push part first ws w)) (does (contents_after part first ws)),
    )

module _ (disk nvram : List ℕ) (ws ws' : List FileWrite) (part : Part) (at : ℕ) (bytes : List ℕ) where
  -- nothing was written
  pub goes_refused : ws' ≡ ws → FilesGo (disk_step part at bytes) (nvram_step part at bytes) (known_files disk nvram ws) (known_files disk nvram ws')
  goes_refused e = rw e (goes_none disk nvram ws (disk_step part at bytes) (nvram_step part at bytes) (on_disk part) (on_nvram part))
    where
      on_disk : (p : Part) (f : List ℕ) → disk_step p at bytes f f
      on_disk Disk f = λ n. inl refl
      on_disk Nvram f = refl

      on_nvram : (p : Part) (f : List ℕ) → nvram_step p at bytes f f
      on_nvram Disk f = refl
      on_nvram Nvram f =
          let same : file_with at [] f ≡ f = rw (append-nil, add-zero) (take-append-drop at f) in
          record { kept = 0; within = omega arith; is = sym same }

  module _ (adds : IsAdded ws ws' part at bytes) where
    pub goes_write : FilesGo (disk_step part at bytes) (nvram_step part at bytes) (known_files disk nvram ws) (known_files disk nvram ws')
    goes_write honest =
        rw adds.2 record {
          honest = tt;
          later = omega (arith, length-append ws (record { part = part; at = at; bytes = adds.0 } ∷ []));
          disk = file_goes (disk_step part at bytes) Disk disk ws record { part = part; at = at; bytes = adds.0 } (on_disk part);
          nvram = file_goes (nvram_step part at bytes) Nvram nvram ws record { part = part; at = at; bytes = adds.0 } (on_nvram part);
        }
      where
        on_disk : (p : Part) (f : List ℕ) → disk_step p at bytes f (written_file Disk f p at adds.0.items)
        on_disk Disk f = λ n. inr (rw adds.1 refl)
        on_disk Nvram f = refl

        on_nvram : (p : Part) (f : List ℕ) → nvram_step p at bytes f (written_file Nvram f p at adds.0.items)
        on_nvram Disk f = refl
        on_nvram Nvram f = record { kept = length bytes; within = omega arith; is = rw (adds.1, take_all (length bytes) bytes (omega arith)) refl }

    -- the files are what the writes make of them
    pub contents_written : (p q : Part) (first file : List ℕ) → part ≡ q → file ≡ contents_after p first ws → written_file p file q at bytes ≡ contents_after p first ws'
    contents_written p q first file e is = rw (← e, adds.2, contents-push p first ws (record { part = part; at = at; bytes = adds.0 }), ← is, adds.1) refl
