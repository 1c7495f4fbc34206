-- What the program's words ask for, as a function of them.
use Rattle.std.specs.Prelude.{ℕ, ◌≡◌, ◌⊎◌, ◌&&◌, Bool, nat_le, nat_lt, List, [], ◌∷◌, length, map}
use Rattle.std.specs.Prelude.{Option, Some, None, option_map, if◌then◌else◌, codes, Result, Ok, Err}
use Rattle.std.specs.List.{list_all}
use Rattle.std.specs.Str.{bytes_eq}
use Rattle.clap.specs.Words.{IsAmong, Kinds, Row, Text, all_of, fault_of, first_of, subcommand_of}
use Rattle.clap.specs.declared.error.kind.ErrorKind.TheVariants.{DisplayHelp, DisplayVersion}
use Rattle.layout.specs.declared.TheConstants.{BLOCK_BYTES}
use Rattle.layout.specs.declared.geometry.TheConstants.{LEAST_BLOCKS, MOST_BLOCKS, LEAST_INODES, MOST_INODES, LEAST_HALF, MOST_HALF}
use Rattle.command_line.specs.Arguments.{wafl_app}
use Rattle.command_line.specs.Durabilities.{durability_at}
use Rattle.command_line.specs.Values.{Refusal, amount_at, given, is_set, needed, not_understood, option_number, out_of_range, text_at}
use Rattle.command_line.specs.declared.line.Asked.{Asked}
use Rattle.command_line.specs.declared.line.Kept.{Kept}
use Rattle.command_line.specs.declared.line.Kept.TheVariants as kept
use Rattle.command_line.specs.declared.line.Line.{Line}
use Rattle.command_line.specs.declared.line.Line.TheVariants as line
use Rattle.command_line.specs.declared.line.LineError.{LineError}
use Rattle.command_line.specs.declared.line.LineError.TheVariants as error
use Rattle.command_line.specs.declared.line.Options.{Options}
use Rattle.command_line.specs.declared.line.RunFaults.{RunFaults}
use Rattle.command_line.specs.declared.waiting.Wait.{Wait}
use Rattle.command_line.specs.Waiting.{others_of, wait_of}

-- ---- the values of the types

-- which sector writes a power cut keeps: none, all, or as the characters of a text say
pub data KeptValue : Type 0 where
  nothing : KeptValue
  everything : KeptValue
  bits : Text → KeptValue

-- what is to go wrong in a run
pub record FaultsValue : Type 0 where
  pub cut : Option ℕ
  pub keep : KeptValue
  pub bytes : ℕ
  pub fail_sync : Option ℕ

-- what a line of the program asks for, its texts by their bytes; of help and the version not which
-- text is shown
pub data LineValue : Type 0 where
  make : (disk nvram : Text) → (blocks inodes half : ℕ) → (is_new : Bool) → LineValue
  run : (disk nvram script : Text) → (stops : Bool) → FaultsValue → LineValue
  shell : (disk nvram : Text) → LineValue
  one : (disk nvram : Text) → (words : List Text) → LineValue
  df : (disk nvram : Text) → LineValue
  check : (disk nvram : Text) → LineValue
  put : (disk nvram file path : Text) → LineValue
  get : (disk nvram path file : Text) → (snapshot : Option Text) → LineValue
  restore : (disk nvram snapshot path : Text) → (new_path : Option Text) → LineValue
  serve : (disk nvram : Text) → (uid gid : ℕ) → LineValue
  help : LineValue

-- a line, and how it is done and told
pub record AskedValue : Type 0 where
  pub line : LineValue
  pub options : Options

abbrev pub keep_value : Kept → KeptValue
keep_value kept.Nothing = nothing
keep_value kept.Everything = everything
keep_value (kept.Bits text) = bits text.now

abbrev pub faults_value : RunFaults → FaultsValue
faults_value f = record {
  cut = f.cut;
  keep = keep_value f.keep;
  bytes = f.bytes;
  fail_sync = f.fail_sync;
}

abbrev pub line_value : Line → LineValue
line_value (line.Make disk nvram blocks inodes half is_new) =
    make disk.now nvram.now blocks inodes half is_new
line_value (line.Run disk nvram script stops faults) =
    run disk.now nvram.now script.now stops (faults_value faults)
line_value (line.Shell disk nvram) = shell disk.now nvram.now
line_value (line.Do disk nvram words) = one disk.now nvram.now (map (λ w. w.now) words.items)
line_value (line.Df disk nvram) = df disk.now nvram.now
line_value (line.Check disk nvram) = check disk.now nvram.now
line_value (line.Put disk nvram file path) = put disk.now nvram.now file.now path.now
line_value (line.Get disk nvram path file snapshot) =
    get disk.now nvram.now path.now file.now (option_map (λ s. s.now) snapshot)
line_value (line.Restore disk nvram snapshot path new_path) =
    restore disk.now nvram.now snapshot.now path.now (option_map (λ p. p.now) new_path)
line_value (line.Serve disk nvram uid gid) = serve disk.now nvram.now uid gid
line_value (line.Help text) = help

abbrev pub asked_value : Asked → AskedValue
asked_value a = record { line = line_value a.line; options = a.options }

-- ---- what was found for the arguments of each command

-- a command on the two files of an image
abbrev pub with_image : List Row → (Text → Text → Result LineValue Refusal) → Result LineValue Refusal
with_image rows line = given (text_at (codes "disk") rows) (λ disk.
    given (text_at (codes "nvram") rows) (line disk))

abbrev pub make_line : List Row → Result LineValue Refusal
make_line rows = with_image rows (λ disk nvram.
    given (amount_at (codes "blocks") BLOCK_BYTES LEAST_BLOCKS MOST_BLOCKS rows) (λ blocks.
    given (amount_at (codes "inodes") 1 LEAST_INODES MOST_INODES rows) (λ inodes.
    given (amount_at (codes "half") 1 LEAST_HALF MOST_HALF rows) (λ half.
    Ok (make disk nvram blocks inodes half (is_set (codes "new") rows))))))

abbrev pub is_bits : Text → Bool
is_bits text = nat_lt 0 (length text) && list_all (λ c. nat_le 48 c && nat_le c 50) text

-- what is kept is `none`, `all` or a text of 0 (48), 1 and 2 (50)
abbrev pub keep_named : Text → Option KeptValue
keep_named text = if bytes_eq text (codes "none") then Some nothing
    else (if bytes_eq text (codes "all") then Some everything
    else (if is_bits text then Some (bits text) else None))

abbrev pub faults_at : List Row → Result FaultsValue Refusal
faults_at rows = given (given (text_at (codes "keep") rows) (λ word. needed (keep_named word))) (λ keep.
    given (needed (option_number (codes "bytes") rows)) (λ bytes. Ok (record {
      cut = option_number (codes "cut") rows;
      keep = keep;
      bytes = bytes;
      fail_sync = option_number (codes "fail-sync") rows;
    })))

abbrev pub run_line : List Row → Result LineValue Refusal
run_line rows = with_image rows (λ disk nvram. given (text_at (codes "script") rows) (λ script.
    given (faults_at rows) (λ faults.
    Ok (run disk nvram script (is_set (codes "stop") rows) faults))))

abbrev pub shell_line : List Row → Result LineValue Refusal
shell_line rows = with_image rows (λ disk nvram. Ok (shell disk nvram))

abbrev pub df_line : List Row → Result LineValue Refusal
df_line rows = with_image rows (λ disk nvram. Ok (df disk nvram))

abbrev pub check_line : List Row → Result LineValue Refusal
check_line rows = with_image rows (λ disk nvram. Ok (check disk nvram))

abbrev pub do_line : List Row → Result LineValue Refusal
do_line rows = with_image rows (λ disk nvram.
    given (needed (all_of (codes "words") rows)) (λ words. Ok (one disk nvram words)))

abbrev pub put_line : List Row → Result LineValue Refusal
put_line rows = with_image rows (λ disk nvram. given (text_at (codes "file") rows) (λ file.
    given (text_at (codes "path") rows) (λ path. Ok (put disk nvram file path))))

abbrev pub get_line : List Row → Result LineValue Refusal
get_line rows = with_image rows (λ disk nvram. given (text_at (codes "path") rows) (λ path.
    given (text_at (codes "file") rows) (λ file.
    Ok (get disk nvram path file (first_of (codes "in") rows)))))

abbrev pub restore_line : List Row → Result LineValue Refusal
restore_line rows = with_image rows (λ disk nvram. given (text_at (codes "snapshot") rows) (λ snapshot.
    given (text_at (codes "path") rows) (λ path.
    Ok (restore disk nvram snapshot path (first_of (codes "newpath") rows)))))

abbrev pub serve_line : List Row → Result LineValue Refusal
serve_line rows = with_image rows (λ disk nvram.
    given (needed (option_number (codes "uid") rows)) (λ uid.
    given (needed (option_number (codes "gid") rows)) (λ gid. Ok (serve disk nvram uid gid))))

-- the line of the command of a name
abbrev pub named_line : Text → List Row → Result LineValue Refusal
named_line name rows = if bytes_eq name (codes "make") then make_line rows
    else (if bytes_eq name (codes "run") then run_line rows
    else (if bytes_eq name (codes "shell") then shell_line rows
    else (if bytes_eq name (codes "do") then do_line rows
    else (if bytes_eq name (codes "df") then df_line rows
    else (if bytes_eq name (codes "check") then check_line rows
    else (if bytes_eq name (codes "put") then put_line rows
    else (if bytes_eq name (codes "get") then get_line rows
    else (if bytes_eq name (codes "restore") then restore_line rows
    else (if bytes_eq name (codes "serve") then serve_line rows else Err not_understood)))))))))

-- ---- the words

-- the flags and options of a command, where so long is waited
unfoldable pub options_at : List Row → Wait → Result Options Refusal
options_at rows wait = given (durability_at rows) (λ durability. Ok (record {
  explains = is_set (codes "explain") rows;
  is_encoded = is_set (codes "encoded") rows;
  is_human = is_set (codes "human") rows;
  salvages = is_set (codes "salvage") rows;
  forces = is_set (codes "force") rows;
  durability = durability;
  wait = wait;
}))

-- the line of a command, and its flags and options
abbrev pub asked_at : Text → List Row → Wait → Result AskedValue Refusal
asked_at name rows wait = given (named_line name rows) (λ l. given (options_at rows wait) (λ o.
    Ok (record { line = l; options = o })))

-- what clap finds wrong with the words, or what help they ask for
unfoldable pub faults_of : List Text → Kinds
faults_of words = fault_of wafl_app words

-- the command that clap's matches of the words name, with what was found for its arguments
unfoldable pub command_of : List Text → Option (Text × List Row)
command_of words = subcommand_of wafl_app words

-- where something is wrong with the words, they aren't understood
abbrev pub unless : {V : Type 0} → Kinds → Result V Refusal → Result V Refusal
unless [] r = r
unless (k ∷ ks) r = Err not_understood

-- what words ask for that clap reads, where nothing is wrong with them: the line that clap's
-- matches name
abbrev pub asked_by : List Text → Wait → Result AskedValue Refusal
asked_by words wait =
    unless (faults_of words) (given (needed (command_of words)) (λ sub. asked_at sub.0 sub.1 wait))

-- what the words ask for: clap reads those that don't say how long is waited, `--deferred` written out
abbrev pub asked_of : List Text → Result AskedValue Refusal
asked_of words = given (wait_of words) (asked_by (others_of words))

-- words that clap reads ask for the help or the version
abbrev pub ShowsHelp : List Text → Type 0
ShowsHelp words = IsAmong DisplayHelp (faults_of words) ⊎ IsAmong DisplayVersion (faults_of words)

-- the words ask for the help or the version
abbrev pub AskForHelp : List Text → Type 0
AskForHelp words = ShowsHelp (others_of words)

-- why there is no value, but where an error is of memory and says nothing of the words
abbrev pub Refuses : {V : Type 0} → Result V Refusal → LineError → Type 0
Refuses r error.NoMemory = Unit {0}
Refuses r (error.NotUnderstood text) = r ≡ Err not_understood
Refuses r (error.OutOfRange text) = r ≡ Err out_of_range

-- the value that is named, or the reason why none is
abbrev pub Yields : {T V : Type 0} → (T → V) → Result V Refusal → Result T LineError → Type 0
Yields value r (Ok x) = r ≡ Ok (value x)
Yields value r (Err e) = Refuses r e

-- an error of memory, or that words aren't understood
abbrev pub IsMisunderstood : LineError → Type 0
IsMisunderstood (error.OutOfRange text) = ⊥
IsMisunderstood _ = Unit {0}
