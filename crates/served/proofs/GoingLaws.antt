-- How serving goes on behind a message whose reply is kept.
use Rattle.std.proofs.Common.{◌≡◌, ◌++◌, ◌∙◌, ◌≤◌, ℕ, Bool, List, [], ◌∷◌, Option, Result, Ok, Err, IfErr, IfSome, IsFalse, length, OnOk, ap, append-nil, arith, inl, inr, map, refl, subst, sym}
use Rattle.std.proofs.KnownBytes.{Appends-nil}
use Rattle.std.specs.Io.KnownBytes.{Appends, Consumes}
use Rattle.channel.specs.declared.channel.Channel.{Ghosts as Channel}
use Rattle.channel.specs.declared.channel.Ended.{Ended}
use Rattle.file_system.specs.declared.file_system.FileSystem.{Ghosts}
use Rattle.fuse.specs.Request.{IsRequest, RequestValue}
use Rattle.fuse.specs.declared.time.Time.{Time}
use Rattle.model.specs.declared.errno.Errno.{Errno}
use Rattle.served.specs.Durability.{is_due, settles}
use Rattle.served.specs.Kept.{Owed, lost_by, owed, owed_behind}
use Rattle.served.specs.Known.{Known}
use Rattle.served.specs.Serving.{AreSent, Exchange, HasStopped, Hears, IsAnswered, IsCommitted, MayAsk, Settles, Stage, WaitsOn, ending_of, lost_text, since_behind, stage, told_behind}
use Rattle.served.specs.UnderWay.{AreOwed, HasAnswered, HasCome, HasKept, IsUnderWay, KeepsNone}
use Rattle.served.specs.declared.durability.Durability.{Durability}
use Rattle.served.specs.declared.durability.Durability.TheVariants.{Together, Deferred}
use Rattle.served.specs.declared.serving.Ending.TheVariants.{NoMemory}
use Rattle.served.proofs.ServingLaws.{batch_done, batch_ended, batch_lacks, come_more, come_unasked, owes_asked, owes_more, stops_full, under_way}

module _ {S C : Type 0} (G : Ghosts S) (H : Channel C) (d : Durability) where
  -- a commit settles a batch
  pub settles_so : (old new : Stage S C) (before more : List Exchange) (done : Result (Unit {0}) Errno) → KeepsNone d before → length more ≤ 1 → IsCommitted G old new done → Settles G d old new (before ++ more) done
  settles_so old new before more done free one committed = by d free
    where
      by : (x : Durability) → KeepsNone x before → Settles G x old new (before ++ more) done
      by Together none = committed
      by (Deferred milliseconds bytes) none = inl (committed, subst (λ (l : List Exchange). length (l ++ more) ≤ 1) (sym none) one)

  one_alone : (milliseconds bytes : ℕ) (before : List Exchange) (e : Exchange) → d ≡ Deferred milliseconds bytes → KeepsNone d before → before ++ e ∷ [] ≡ e ∷ []
  one_alone milliseconds bytes before e is free = ap (λ (l : List Exchange). l ++ e ∷ []) (subst (λ (x : Durability). KeepsNone x before) is free)

  pub settles_waiting : (milliseconds bytes : ℕ) (old new : Stage S C) (before : List Exchange) (e : Exchange) → d ≡ Deferred milliseconds bytes → KeepsNone d before → WaitsOn G milliseconds bytes old new e
      → Settles G d old new (before ++ e ∷ []) (Ok tt)
  settles_waiting milliseconds bytes old new before e is free waits =
      subst (λ (x : Durability). Settles G x old new (before ++ e ∷ []) (Ok tt)) (sym is) (inr (e, one_alone milliseconds bytes before e is free, waits, refl))

  -- what was done may wait
  pub waits_so : (milliseconds bytes waiting : ℕ) (old new : Stage S C) (since : Option Time) (e : Exchange) (now : Time) (is_asked : Bool) → new.files ≡ old.files → waiting ≡ G.waits old.files → e.now ≡ now
      → ((r : RequestValue) → IsRequest e.message r → is_asked ≡ settles r.operation) → IsFalse is_asked → waiting ≤ bytes → new.since ≡ since → since ≡ since_behind waiting old.since now
      → IfSome since (λ t. IsFalse (is_due milliseconds t now)) → WaitsOn G milliseconds bytes old new e
  waits_so milliseconds bytes waiting old new since e now is_asked files count at asks none few same behind young = record {
    asks_none = λ r is. subst IsFalse (asks r is) none;
    files = files;
    since = same ∙ (behind ∙ (λ i. since_behind (count i) old.since (sym at i)));
    few = subst (λ (n : ℕ). n ≤ bytes) count few;
    young = subst (λ (s : Option Time). IfSome s (λ t. IsFalse (is_due milliseconds t e.now))) (sym same)
        (subst (λ (t : Time). IfSome since (λ begun. IsFalse (is_due milliseconds begun t))) (sym at) young);
  }

  module _ (begun now : Stage S C) (kept : List Owed) (at : Time) (is_asked : Bool) (has : HasKept G H d begun now kept at is_asked)
      (next : C) (question : (part : List ℕ) × MayAsk H now.channel next part × Appends (H.gone now.channel) (H.gone next) part) (same : H.coming next ≡ H.coming now.channel) where
    abbrev pub last : Exchange
    last = record has.last { asked = question.0 }

    abbrev pub exchanges : List Exchange
    exchanges = has.before ++ last ∷ []

    abbrev pub behind : Stage S C
    behind = record now { channel = next }

    come : HasCome G H d begun behind exchanges
    come = come_more G H d begun now has.before has.last has.answered next question.0 question.1 question.2 same

    owes : AreOwed kept exchanges
    owes = owes_asked kept has.before has.last question.0 has.owes

    -- together, more messages may come before the replies go
    pub keeps_on : d ≡ Together → (kept' : List Owed) → kept' ≡ kept → IsUnderWay G H d begun behind kept'
    keeps_on is kept' unchanged = record {
      exchanges = exchanges;
      come = come;
      owes = subst (λ (l : List Owed). AreOwed l exchanges) (sym unchanged) owes;
      free = subst (λ (x : Durability). KeepsNone x exchanges) (sym is) tt;
    }

    module _ (new : Stage S C) (done : Result (Unit {0}) Errno) (settled : Settles G d behind new exchanges done) (known : new.known ≡ now.known) (coming : H.coming new.channel ≡ H.coming next) (kept₁ : List Owed) (unchanged : kept₁ ≡ kept) where
      told : (result : Result (Unit {0}) Ended) → (went : List ℕ) × AreSent H next new.channel (map (owed_behind done) kept₁) went result × Appends (H.gone next) (H.gone new.channel) went
          → (went : List ℕ) × AreSent H next new.channel (map (told_behind done) exchanges) went result × Appends (H.gone next) (H.gone new.channel) went
      unfolding AreOwed
      told result (went, sent, gone) =
          (went, subst (λ (l : List (List ℕ)). AreSent H next new.channel l went result) (ap (map (owed_behind done)) unchanged ∙ owes done) sent, gone)

      -- the replies went
      pub goes_on : (kept' : List Owed) → kept' ≡ [] → (result : Result (Unit {0}) Ended) → (went : List ℕ) × AreSent H next new.channel (map (owed_behind done) kept₁) went result × Appends (H.gone next) (H.gone new.channel) went
          → OnOk result (IsUnderWay G H d begun new kept')
      goes_on kept' none (Ok tt) sent = under_way G H d begun new kept' none (batch_done G H d begun behind new exchanges come done settled known coming (told (Ok tt) sent))
      goes_on kept' none (Err ended) sent = tt

      -- or the channel ended
      pub ends : (result : Result (Unit {0}) Ended) → (went : List ℕ) × AreSent H next new.channel (map (owed_behind done) kept₁) went result × Appends (H.gone next) (H.gone new.channel) went
          → IfErr result (λ ended. HasStopped G H d begun new (ending_of ended))
      ends (Ok tt) sent = tt
      ends (Err ended) sent = batch_ended G H d begun behind new exchanges come done settled known coming ended (told (Err ended) sent)

  -- what is under way is settled, and its replies go, or the channel ends
  module _ (begun now new : Stage S C) (kept : List Owed) (way : IsUnderWay G H d begun now kept) (done : Result (Unit {0}) Errno) (committed : IsCommitted G now new done) (known : new.known ≡ now.known) (coming : H.coming new.channel ≡ H.coming now.channel) where
    settled : Settles G d now new way.exchanges done
    settled = subst (λ (l : List Exchange). Settles G d now new l done) (append-nil way.exchanges) (settles_so now new way.exchanges [] done way.free (omega arith) committed)

    said : (result : Result (Unit {0}) Ended) → (went : List ℕ) × AreSent H now.channel new.channel (map (owed_behind done) kept) went result × Appends (H.gone now.channel) (H.gone new.channel) went
        → (went : List ℕ) × AreSent H now.channel new.channel (map (told_behind done) way.exchanges) went result × Appends (H.gone now.channel) (H.gone new.channel) went
    unfolding AreOwed
    said result (went, sent, gone) = (went, subst (λ (l : List (List ℕ)). AreSent H now.channel new.channel l went result) (way.owes done) sent, gone)

    pub stops_whole : (went : List ℕ) × AreSent H now.channel new.channel (map (owed_behind done) kept) went (Ok tt) × Appends (H.gone now.channel) (H.gone new.channel) went → HasStopped G H d begun new NoMemory
    stops_whole sent = stops_full G H d begun new (batch_done G H d begun now new way.exchanges way.come done settled known coming (said (Ok tt) sent))

    pub stops_ended : (ended : Ended) → (went : List ℕ) × AreSent H now.channel new.channel (map (owed_behind done) kept) went (Err ended) × Appends (H.gone now.channel) (H.gone new.channel) went → HasStopped G H d begun new (ending_of ended)
    stops_ended ended sent = batch_ended G H d begun now new way.exchanges way.come done settled known coming ended (said (Err ended) sent)

  -- the kernel wasn't asked
  abbrev pub unasked : (s : C) → (part : List ℕ) × MayAsk H s s part × Appends (H.gone s) (H.gone s) part
  unasked s = ([], inl (refl, refl), Appends-nil (H.gone s))

  -- Behind what is under way one more message came, and was answered.
  module _ (begun : Stage S C) (kept : List Owed) (files files' : S) (k known : Known) (old heard : C) (since since' : Option Time) (way : IsUnderWay G H d begun (stage files k old since) kept) (time : Time) (message reply : List ℕ)
      (hears : Hears H old heard (Ok message)) (came : Consumes (H.coming old) (H.coming heard) message) (same : H.gone heard ≡ H.gone old) (answered : IsAnswered G d files files' k known time message reply) (same_since : since' ≡ since) where
    abbrev arrived : Exchange
    arrived = record { message = message; now = time; reply = reply; asked = [] }

    abbrev here : Stage S C
    here = stage files' known heard since'

    has_answered : HasAnswered G H d begun here way.exchanges arrived
    has_answered = record {
      old = stage files k old since;
      come = way.come;
      free = way.free;
      hears = hears;
      answered = answered;
      since = same_since;
      coming = came;
      gone = same;
    }

    -- its reply is kept
    pub has_kept : (unique : ℕ) (kept' : List Owed) (is_asked : Bool) → lost_text message reply ≡ lost_by unique reply → kept' ≡ kept ++ owed unique reply ∷ [] → ((r : RequestValue) → IsRequest message r → is_asked ≡ settles r.operation)
        → HasKept G H d begun here kept' time is_asked
    has_kept unique kept' is_asked lost more asks = record {
      before = way.exchanges;
      last = arrived;
      answered = has_answered;
      owes = subst (λ (l : List Owed). AreOwed l (way.exchanges ++ arrived ∷ [])) (sym more) (owes_more kept way.exchanges unique arrived lost way.owes);
      time = refl;
      asks = asks;
    }

    -- there is no memory for it
    pub stops_lacking : (new : Stage S C) (kept' : List Owed) (done : Result (Unit {0}) Errno) (result : Result (Unit {0}) Ended) → kept' ≡ kept → IsCommitted G here new done → new.known ≡ known → H.coming new.channel ≡ H.coming heard
        → (went : List ℕ) × AreSent H heard new.channel (map (owed_behind done) kept') went result × Appends (H.gone heard) (H.gone new.channel) went → HasStopped G H d begun new NoMemory
    unfolding AreOwed
    stops_lacking new kept' done result unchanged committed same_known coming (went, sent, gone) =
        batch_lacks G H d begun here new (way.exchanges ++ arrived ∷ []) (come_unasked G H d begun here way.exchanges arrived has_answered) done
        (settles_so here new way.exchanges (arrived ∷ []) done way.free (omega arith) committed) same_known coming way.exchanges arrived result refl
        (went, subst (λ (l : List (List ℕ)). AreSent H heard new.channel l went result) (ap (map (owed_behind done)) unchanged ∙ way.owes done) sent, gone)
