-- A file that is gathered, piece by piece.
use Rattle.std.proofs.Common.{◌≡◌, ◌⊎◌, inl, inr, ℕ, zero, suc, ◌+◌, ◌-◌, ◌<◌, ◌≤◌, ◌^◌, min, List, [], ◌∷◌, ◌++◌, length, take, drop, Option, Some, None, Ok, Err, Result, refl, sym, ap, ap₂, subst, ◌∙◌, append_assoc, append-nil, arith, length-append, length-take}
use Rattle.std.specs.Prelude.{filter_map, unwrap_or, true}
use Rattle.std.proofs.lemmas.List.{take_at, nil_from_length, length-drop, length-take-le, take-append-drop, take-append-le, take_all, drop-drop}
use Rattle.std.proofs.lemmas.List.Elements.{filter_map-append}
use Rattle.std.proofs.Math.Seq.{drop-append_seam}
use Rattle.std.proofs.lemmas.Bool.{cases_lt}
use Rattle.chk_bytes.specs.Words.{BeginsWith}
use Rattle.chk_site.specs.declared.acts.OutsideFault.{OutsideFault}
use Rattle.chk_site.specs.declared.acts.OutsideFault.TheVariants.{Outside as site_failed, NoMemory as no_memory}
use Rattle.chk_site.specs.Files.{File}
use Rattle.chk_site.specs.Effect.{IsSmallFile}
use Rattle.chk_site.specs.History.{History, Step, Every}
use Rattle.chk_site.specs.Site.{Adds, LastFailed}
use Rattle.chk_site.specs.Runs.{anyhow, Leads}
use Rattle.chk_site.proofs.Runs.{adds_then, adds_as, adds_none, every_join}
use Rattle.chk_site.proofs.Leads.{leads_then, leads_none, owned_anyhow}
use Rattle.chk_replace.specs.Load.{Has}
use Rattle.chk_site.proofs.LastCalls.{last_of_both as last_then}
use Rattle.chk_seqfile.specs.Headers.{read_header}
use Rattle.chk_seqfile.specs.declared.headers.HeaderFault.TheVariants.{Short}
use Rattle.chk_seqfile.specs.declared.entries.Why.TheVariants.{Torn}
use Rattle.chk_seqfile.specs.Entries.{IsSequenceFile, Placed, records_of}
use Rattle.chk_salvage.specs.declared.pieces.Pieces.{Pieces}
use Rattle.chk_salvage.specs.declared.fed.Ahead.{Ahead}
use Rattle.chk_salvage.specs.declared.fed.Fed.TheVariants.{More}
use Rattle.chk_salvage.specs.Front.{IsReadSo, DamageAt}
use Rattle.chk_salvage.specs.Feeding.{fed_place, fed_rest, fed_limit, fed_marker, IsFed, Stands}
use Rattle.chk_salvage.specs.Ahead.{IsAhead, IsWholeBy, placed_ahead}
use Rattle.chk_salvage.proofs.FeedLemmas.{records_of-nil}
use Rattle.chk_world.specs.JobSteps.{SparesFile}
use Rattle.chk_record_index.specs.declared.fault.JobFault.{JobFault}
use Rattle.chk_record_index.specs.declared.fault.JobFault.TheVariants.{Outside, Damaged, Spent, NoMemory}
use Rattle.chk_record_index.specs.Faults.{job_fault, FailsLast, IsDamage}
use Rattle.chk_record_index.specs.Heads.{Head, head_of, head_at, heads_in, IsTaken}
use Rattle.chk_record_index.specs.Feeding.{AreChunks, limit_of, WentOver, TookFed, TookAhead, FedFrom, IsSpoiled, IsBadAt, no_header, torn, spoiled}
use Rattle.chk_record_index.specs.Pieces.{bytes_in, asks_for, HasBytes}
use Rattle.chk_record_index.specs.Shown.{HasThere, Agree, ShowsBytes}
use Rattle.chk_record_index.specs.Gathered.{Gathered, GatheredFile, EndsSo, ToldOf, ShowsGathered}
use Rattle.chk_record_index.proofs.Showing.{agree_join, agree_early, agree_late, there_behind, none_there}
use Rattle.chk_record_index.proofs.FedRecords.{both_chunks, chunks_more, heads_more}

-- all of these bytes was fed or passed over, and the heads of its records up to the reader's place stand behind the others
pub record HasTaken (most file : ℕ) (p : Pieces) (at : ℕ) (hs ks : List Head) (fed : List ℕ) : Type 0 where
  pub state : IsFed p fed
  pub size : at ≡ length fed
  pub chunks : AreChunks most (records_of (take (fed_place p) fed))
  pub heads : ks ≡ hs ++ filter_map (head_at most file) (records_of (take (fed_place p) fed))

-- it is so of a front of the file, and it is still this one
abbrev pub HasFront : List ℕ → Option File → ℕ → ℕ → Pieces → ℕ → List Head → List Head → History → Type 0
HasFront name f most file p at hs ks history =
    Has name f history × (fed : List ℕ) × BeginsWith (bytes_in f) fed × HasTaken most file p at hs ks fed

-- it is so of a front of all bytes that have what own reads gave, and some bytes have it, whatever stands behind them
pub record HasShown (name : List ℕ) (most file : ℕ) (p : Pieces) (at : ℕ) (hs ks : List Head) (some : List ℕ) (added history : History) : Type 0 where
  pub agree : (more : List ℕ) → Agree name (some ++ more) added history
  pub each : (bytes : List ℕ) → Agree name bytes added history → (fed : List ℕ) × BeginsWith bytes fed × HasTaken most file p at hs ks fed

-- it is so of some bytes, and of a front of each file that the history bears out
pub record IsGathered (old now : Option History) (name : List ℕ) (most file : ℕ) (p : Pieces) (at : ℕ) (hs ks : List Head) : Type 0 where
  pub some : List ℕ
  pub taken : HasTaken most file p at hs ks some
  pub limit : fed_limit p ≡ limit_of most
  pub small : at < 2 ^ 63
  pub raw : (f : Option File) → IsSmallFile f
      → Adds old now (Leads (anyhow (SparesFile name)) (Has name f) (HasFront name f most file p at hs ks))
  pub shown : Adds old now (HasShown name most file p at hs ks some)

-- ---- the bytes

pub small_bytes : (f : Option File) → IsSmallFile f → length (bytes_in f) < 2 ^ 63
small_bytes None small = omega arith
small_bytes (Some file) small = small

-- what is behind a front of some bytes, from a place on
module _ (bytes fed rest : List ℕ) (at from : ℕ) (here : at ≡ length fed) (on : at ≤ from) (front : bytes ≡ fed ++ rest) where
  left : drop from bytes ≡ drop (from - at) rest
  left =
      let sum : at + (from - at) ≡ from = omega arith in
      ap (λ n. drop n bytes) (sym sum) ∙ sym (drop-drop (from - at) at bytes)
      ∙ ap (drop (from - at)) (ap₂ (λ n b. drop n b) here front ∙ drop-append_seam fed rest)

  -- where a piece is read there, what lies before it was passed over
  piece_behind : (n : ℕ) (piece : List ℕ) → piece ≡ take n (drop from bytes) → 0 < length piece
      → (missing : List ℕ) × (length fed + length missing ≡ from) × BeginsWith bytes (fed ++ (missing ++ piece))
  piece_behind n piece given some =
      let missing : List ℕ = take (from - at) rest in
      let more : List ℕ = drop (from - at) rest in
      let is : piece ≡ take n more = given ∙ ap (take n) left in
      let few : length piece ≡ min n (length more) = ap length is ∙ length-take n more in
      let size : length missing ≡ from - at = length-take-le (from - at) rest (omega (arith, few, some, length-drop (from - at) rest)) in
      let parts : rest ≡ missing ++ (piece ++ drop n more) =
      sym (take-append-drop (from - at) rest)
      ∙ ap (λ x. missing ++ x) (sym (take-append-drop n more) ∙ ap (λ x. x ++ drop n more) (sym is)) in (
        missing,
        omega (arith, size, here, on),
        (
          drop n more,
          front ∙ ap (λ x. fed ++ x) (parts ∙ sym (append_assoc missing piece (drop n more))) ∙ sym (append_assoc fed (missing ++ piece) (drop n more)),
        ),
      )

-- where nothing is read there, the bytes have ended
ended_before : (bytes : List ℕ) (from n : ℕ) (piece : List ℕ) → piece ≡ take (asks_for n from) (drop from bytes) → length piece ≡ 0 → 0 < n
    → length bytes < 2 ^ 63 → length bytes ≤ from
ended_before bytes from n piece given empty some low =
    let few : length piece ≡ min (asks_for n from) (length (drop from bytes)) = ap length given ∙ length-take (asks_for n from) (drop from bytes) in
    omega (arith, few, empty, some, low, length-drop from bytes)

-- what the bytes have there is what they have there at most
taken_there : (piece : List ℕ) {left : List ℕ} → BeginsWith left piece → piece ≡ take (length piece) left
taken_there piece (rest, is) = sym (ap (take (length piece)) is ∙ take_at piece rest (length piece) refl)

-- a piece stands behind what came before it and a gap
there_past : (some gap piece more : List ℕ) (from max : ℕ) → 0 < length piece → length some + length gap ≡ from
    → HasThere ((some ++ (gap ++ piece)) ++ more) from max piece
there_past some gap piece more from max any fills =
    subst (λ w. HasThere w from max piece)
    (append_assoc some gap (piece ++ more)
    ∙ (ap (λ x. some ++ x) (sym (append_assoc gap piece more)) ∙ sym (append_assoc some (gap ++ piece) more)))
    (subst (λ n. HasThere ((some ++ gap) ++ (piece ++ more)) n max piece) (length-append some gap ∙ fills)
    (there_behind (some ++ gap) piece more max any))

-- nothing came there, where something was asked for
past_there : (bytes : List ℕ) (from n : ℕ) (piece : List ℕ) → HasThere bytes from (asks_for n from) piece → length piece ≡ 0 → 0 < n
    → length bytes < 2 ^ 63 → length bytes ≤ from
past_there bytes from n piece there empty some low = by (cases_lt (from + 1) (2 ^ 63))
  where
    by : (from + 1 < 2 ^ 63) ⊎ (2 ^ 63 ≤ from + 1) → length bytes ≤ from
    by (inl less) = there.ends empty (omega arith)
    by (inr full) = omega arith

-- a piece is known of the file
with_piece : (name : List ℕ) (f : Option File) (most file : ℕ) (p : Pieces) (at from n : ℕ) (hs ks : List Head) (piece : List ℕ) (B : History → Type 0)
    {old mid new : Option History}
    → ((h : History) → Has name f h → (fed : List ℕ) → BeginsWith (bytes_in f) fed → HasTaken most file p at hs ks fed
    → piece ≡ take (asks_for n from) (drop from (bytes_in f)) → B h)
    → Adds old mid (Leads (anyhow (SparesFile name)) (Has name f) (HasFront name f most file p at hs ks))
    → Adds mid new (Leads (anyhow (SparesFile name)) (Has name f) (HasBytes name from n f (Ok piece)))
    → Adds old new (Leads (anyhow (SparesFile name)) (Has name f) B)
with_piece name f most file p at from n hs ks piece B join so_far given =
    leads_then so_far
    (adds_as (Leads (anyhow (SparesFile name)) (HasFront name f most file p at hs ks) B) given
    (λ added history x. record {
      leads = λ s h. let y = x.leads s h.0 in join (added ++ history) y.0 h.1 h.2 h.3 y.1;
      own = x.own;
    }))

-- ---- what is told of the bytes

-- the file is still so
still : (name : List ℕ) (f : Option File) (most file : ℕ) (hs js : List Head) (result : Result (Unit {0}) JobFault) (h : History) → Has name f h
    → ToldOf most name (bytes_in f) file hs js result → GatheredFile most name f file hs js result h
still name f most file hs js (Ok value) h has told = (has, told.0, told.1)
still name f most file hs js (Err (Damaged which at)) h has told = told
still name f most file hs js (Err (Outside call)) h has told = tt
still name f most file hs js (Err (Spent number)) h has told = tt
still name f most file hs js (Err NoMemory) h has told = tt

-- own reads show it
shows_told : (name : List ℕ) (most file : ℕ) (hs js : List Head) (result : Result (Unit {0}) JobFault) (some : List ℕ) → length some < 2 ^ 63
    → (added history : History) → Agree name some added history
    → ((bytes : List ℕ) → length bytes < 2 ^ 63 → Agree name bytes added history → ToldOf most name bytes file hs js result)
    → ShowsGathered most name file hs js result added history
shows_told name most file hs js (Ok value) some small added history agree each =
    record { some = some; small = small; agree = agree; each = each }
shows_told name most file hs js (Err (Damaged which at)) some small added history agree each =
    ((each some small agree).0, record { some = some; small = small; agree = agree; each = λ bytes low all. (each bytes low all).1 })
shows_told name most file hs js (Err (Outside call)) some small added history agree each = tt
shows_told name most file hs js (Err (Spent number)) some small added history agree each = tt
shows_told name most file hs js (Err NoMemory) some small added history agree each = tt

-- a front of them can't begin a file of chunks
spoiled_told : (name : List ℕ) (most file : ℕ) (p : Pieces) (at : ℕ) (hs ks : List Head) → fed_limit p ≡ limit_of most → (js : List Head)
    (place : ℕ) (fault : JobFault)
    → ((fed : List ℕ) → IsFed p fed → AreChunks most (records_of (take (fed_place p) fed)) → IsSpoiled most (fed_limit p) fed place)
    → IsDamage name place fault → (bytes fed : List ℕ) → BeginsWith bytes fed → HasTaken most file p at hs ks fed
    → ToldOf most name bytes file hs js (Err fault)
spoiled_told name most file p at hs ks limit js place (Outside call) bad damage bytes fed front t = tt
spoiled_told name most file p at hs ks limit js place (Damaged which there) bad damage bytes fed front t = (
  damage.0,
  spoiled fed front (subst (λ k. IsSpoiled most (limit_of most) fed k) (sym damage.1)
      (subst (λ l. IsSpoiled most l fed place) limit (bad fed t.state t.chunks))),
)
spoiled_told name most file p at hs ks limit js place (Spent number) bad damage bytes fed front t = tt
spoiled_told name most file p at hs ks limit js place NoMemory bad damage bytes fed front t = tt

-- ---- before the first piece

pub no_records : (place : ℕ) → records_of (take place []) ≡ []
no_records place = ap records_of (take_all place [] (omega arith)) ∙ records_of-nil

pub begins : (now : Option History) (name : List ℕ) (most file : ℕ) (p : Pieces) (hs : List Head) → fed_limit p ≡ limit_of most → IsFed p []
    → IsGathered now now name most file p 0 hs hs
begins now name most file p hs limits state = record {
  some = [];
  taken = taken;
  limit = limits;
  small = omega arith;
  raw = λ f small. leads_none now (λ h has. (has, [], (bytes_in f, refl), taken));
  shown = adds_none now (HasShown name most file p 0 hs hs [])
      (λ history. record { agree = λ more. tt; each = λ bytes all. ([], (bytes, refl), taken) });
}
  where
    taken : HasTaken most file p 0 hs hs []
    taken = record {
      state = state;
      size = refl;
      chunks = subst (AreChunks most) (sym (no_records (fed_place p))) refl;
      heads = sym (ap (λ rs. hs ++ filter_map (head_at most file) rs) (no_records (fed_place p)) ∙ append-nil hs);
    }

-- ---- going on over what was fed, and then over a record that is ahead

took : (most file : ℕ) (p q : Pieces) (at : ℕ) (hs ks js : List Head) (fed : List ℕ) → HasTaken most file p at hs ks fed
    → WentOver most file p q fed ks js → HasTaken most file q at hs js fed
took most file p q at hs ks js fed t w = record {
  state = w.state;
  size = t.size;
  chunks = subst (AreChunks most) (sym w.records) (both_chunks most (records_of (take (fed_place p) fed)) w.more t.chunks w.chunks);
  heads = w.heads
      ∙ (ap (λ x. x ++ filter_map (head_at most file) w.more) t.heads
      ∙ (append_assoc hs (filter_map (head_at most file) (records_of (take (fed_place p) fed))) (filter_map (head_at most file) w.more)
      ∙ ap (λ x. hs ++ x) (sym (ap (filter_map (head_at most file)) w.records
      ∙ filter_map-append (head_at most file) (records_of (take (fed_place p) fed)) w.more))));
}

module _ (most file : ℕ) (p q : Pieces) (at : ℕ) (hs ks js : List Head) (piece : List ℕ) (fed missing : List ℕ) (t : HasTaken most file p at hs ks fed)
    (some : 0 < length piece) where
  length_whole : length (fed ++ (missing ++ piece)) ≡ length fed + length missing + length piece
  length_whole = let a = length-append fed (missing ++ piece) in let b = length-append missing piece in omega arith

  -- nothing is ahead
  onward_none : FedFrom p q None piece → js ≡ ks → length fed + length missing ≡ at
      → HasTaken most file q (at + length piece) hs js (fed ++ (missing ++ piece))
  onward_none fedfrom same all = record {
    state = fedfrom.state fed missing t.state (all ∙ t.size);
    size = let a = length_whole in omega arith;
    chunks = subst (AreChunks most) (sym records) t.chunks;
    heads = same ∙ t.heads ∙ ap (λ r. hs ++ filter_map (head_at most file) r) (sym records);
  }
    where
      records : records_of (take (fed_place q) (fed ++ (missing ++ piece))) ≡ records_of (take (fed_place p) fed)
      records = ap (λ n. records_of (take n (fed ++ (missing ++ piece)))) fedfrom.place
          ∙ ap records_of (take-append-le (fed_place p) fed (missing ++ piece) t.state.within)

  -- a record is
  onward_some : (last : ℕ) → FedFrom p q (Some last) piece → TookAhead most file p ks js (Some last) → length fed + length missing ≡ last
      → HasTaken most file q (last + length piece) hs js (fed ++ (missing ++ piece))
  onward_some last fedfrom (a, ahead, end, taken) all = record {
    state = fedfrom.state fed missing t.state all;
    size = let a = length_whole in omega arith;
    chunks = subst (AreChunks most) (sym records)
        (chunks_more most r c.0 c.1 (records_of (take (fed_place p) fed)) t.chunks);
    heads = c.2 ∙ ap (λ x. x ++ head_of file r.at c.0 ∷ []) t.heads
        ∙ append_assoc hs (filter_map (head_at most file) (records_of (take (fed_place p) fed))) (head_of file r.at c.0 ∷ [])
        ∙ ap (λ x. hs ++ x) (sym (ap (filter_map (head_at most file)) records ∙ heads_more most r c.0 c.1 file (records_of (take (fed_place p) fed))));
  }
    where
      one : List ℕ
      one = take 1 piece

      size_one : length (take 1 piece) ≡ 1
      size_one = omega (arith, length-take 1 piece, some)

      upto : length fed + length (missing ++ take 1 piece) ≡ a.end
      upto = let s = size_one in let b = length-append missing (take 1 piece) in omega (arith, end, all)

      w : IsWholeBy ahead.marker fed (missing ++ take 1 piece) a
      w = ahead.whole fed (missing ++ take 1 piece) t.state upto

      r : Placed
      r = placed_ahead a w.value

      c : IsTaken true most file r ks js
      c = taken w.value w.size

      front : take (last + 1) (fed ++ (missing ++ piece)) ≡ take a.end (fed ++ (missing ++ take 1 piece))
      front =
          let b : List ℕ = fed ++ (missing ++ take 1 piece) in
          let size : length b ≡ a.end = length-append fed (missing ++ take 1 piece) ∙ upto in
          let split : fed ++ (missing ++ piece) ≡ b ++ drop 1 piece =
          ap (λ x. fed ++ (missing ++ x)) (sym (take-append-drop 1 piece))
          ∙ ap (λ x. fed ++ x) (sym (append_assoc missing (take 1 piece) (drop 1 piece)))
          ∙ sym (append_assoc fed (missing ++ take 1 piece) (drop 1 piece)) in
          ap₂ (λ n x. take n x) (sym end) split ∙ take-append-le a.end b (drop 1 piece) (omega (arith, size))

      records : records_of (take (fed_place q) (fed ++ (missing ++ piece))) ≡ records_of (take (fed_place p) fed) ++ r ∷ []
      records = ap (λ n. records_of (take n (fed ++ (missing ++ piece)))) fedfrom.place
          ∙ ap records_of front ∙ w.records ∙ ap (λ n. records_of (take n fed) ++ r ∷ []) ahead.at

-- ---- a piece more

-- as many bytes as are wanted
abbrev zeros : ℕ → List ℕ
zeros zero = []
zeros (suc n) = 0 ∷ zeros n

length-zeros : (n : ℕ) → length (zeros n) ≡ n
length-zeros zero = refl
length-zeros (suc n) = ap suc (length-zeros n)

-- the reader was fed all from its place on
all_fed : (p : Pieces) (fed : List ℕ) → IsFed p fed → length fed ≡ fed_place p + length (fed_rest p)
all_fed p fed h = let within = h.within in let rest = ap length h.rest in omega (arith, length-drop (fed_place p) fed)

-- the next read begins where all was fed, or past it
from_on : (most file : ℕ) (p : Pieces) (at : ℕ) (ks js : List Head) (fed : List ℕ) → IsFed p fed → at ≡ length fed → (last : Option ℕ)
    → TookAhead most file p ks js last → at ≤ unwrap_or last at
from_on most file p at ks js fed h size None same = omega arith
from_on most file p at ks js fed h size (Some last) (a, ahead, end, taken) =
    let all = all_fed p fed h in let owed = ahead.owed in let place = ahead.at in omega arith

onward : (most file : ℕ) (p q : Pieces) (at : ℕ) (hs ks js : List Head) (piece fed missing : List ℕ) → HasTaken most file p at hs ks fed → 0 < length piece
    → (last : Option ℕ) → FedFrom p q last piece → TookAhead most file p ks js last → length fed + length missing ≡ unwrap_or last at
    → HasTaken most file q (unwrap_or last at + length piece) hs js (fed ++ (missing ++ piece))
onward most file p q at hs ks js piece fed missing t some None fedfrom ahead all =
    onward_none most file p q at hs ks js piece fed missing t some fedfrom ahead all
onward most file p q at hs ks js piece fed missing t some (Some last) fedfrom ahead all =
    onward_some most file p q at hs ks js piece fed missing t some last fedfrom ahead all

-- each place lies before that at which a file counts as ended
low_from : (most file : ℕ) (p : Pieces) (at : ℕ) (ks js : List Head) → at < 2 ^ 63 → (last : Option ℕ) → TookAhead most file p ks js last
    → unwrap_or last at < 2 ^ 63
low_from most file p at ks js low None same = low
low_from most file p at ks js low (Some last) (a, ahead, end, taken) = let fits = ahead.fits in omega arith

module _ (old mid new : Option History) (name : List ℕ) (most file : ℕ) (p : Pieces) (at : ℕ) (hs ks : List Head)
    (g : IsGathered old mid name most file p at hs ks) (q : Pieces) (js ms : List Head) (limits : fed_limit q ≡ fed_limit p)
    (went : (fed : List ℕ) → IsFed p fed → AreChunks most (records_of (take (fed_place p) fed)) → TookFed most file p q fed ks js None)
    (last : Option ℕ) (ahead : TookAhead most file q js ms last) (n : ℕ) (piece : List ℕ)
    (given : (f : Option File) → Adds mid new (Leads (anyhow (SparesFile name)) (Has name f) (HasBytes name (unwrap_or last at) n f (Ok piece))))
    (showed : Adds mid new (ShowsBytes name (unwrap_or last at) (asks_for n (unwrap_or last at)) (Ok piece))) where
  -- what was fed was gone over
  over : (fed : List ℕ) → HasTaken most file p at hs ks fed → HasTaken most file q at hs js fed
  over fed t = took most file p q at hs ks js fed t (went fed t.state t.chunks).0

  stood : (fed : List ℕ) → HasTaken most file p at hs ks fed → Stands (fed_limit q) fed (fed_marker q) (fed_place q) More
  stood fed t = subst (λ l. Stands l fed (fed_marker q) (fed_place q) More) (sym limits) (went fed t.state t.chunks).1

  begun : (fed : List ℕ) → HasTaken most file p at hs ks fed → at ≤ unwrap_or last at
  begun fed t = from_on most file q at js ms fed (over fed t).state t.size last ahead

  pub goes_on : (r : Pieces) (next : ℕ) → 0 < length piece → FedFrom q r last piece → next ≡ unwrap_or last at + length piece → next < 2 ^ 63
      → fed_limit r ≡ fed_limit q → IsGathered old new name most file r next hs ms
  goes_on r next some fedfrom is small same = record {
    some = g.some ++ (gap ++ piece);
    taken = then g.some g.taken gap gap_fills;
    limit = same ∙ (limits ∙ g.limit);
    small = small;
    raw = λ f tiny.
        with_piece name f most file p at (unwrap_or last at) n hs ks piece (HasFront name f most file r next hs ms)
        (λ h has fed front t given_is.
        let m =
        piece_behind (bytes_in f) fed front.0 at (unwrap_or last at) t.size (begun fed t) front.1 (asks_for n (unwrap_or last at)) piece given_is some in
        (has, fed ++ (m.0 ++ piece), m.2, then fed t m.0 m.1))
        (g.raw f tiny) (given f);
    shown = adds_then (HasShown name most file r next hs ms (g.some ++ (gap ++ piece))) g.shown showed
        (λ a b history x y. record {
          agree = λ more.
              agree_join name ((g.some ++ (gap ++ piece)) ++ more) b a history
              (subst (λ w. Agree name w a history) (sym (append_assoc g.some (gap ++ piece) more)) (x.agree ((gap ++ piece) ++ more)))
              (y.any ((g.some ++ (gap ++ piece)) ++ more) (there_past g.some gap piece more from (asks_for n from) some gap_fills));
          each = λ bytes all.
              let f = x.each bytes (agree_early name bytes b a history all) in
              let there = (y.each bytes (agree_late name bytes b a history all)).stands in
              let m = piece_behind bytes f.0 f.1.0 at from f.2.size (begun f.0 f.2) f.1.1 (length piece) piece (taken_there piece there) some in
              (f.0 ++ (m.0 ++ piece), m.2, then f.0 f.2 m.0 m.1);
        });
  }
    where
      from : ℕ
      from = unwrap_or last at

      gap : List ℕ
      gap = zeros (from - at)

      gap_fills : length g.some + length gap ≡ from
      gap_fills = let b = begun g.some g.taken in let z = length-zeros (from - at) in let t = g.taken.size in omega arith

      then : (fed : List ℕ) → HasTaken most file p at hs ks fed → (missing : List ℕ) → length fed + length missing ≡ unwrap_or last at
          → HasTaken most file r next hs ms (fed ++ (missing ++ piece))
      then fed t missing all =
          subst (λ k. HasTaken most file r k hs ms (fed ++ (missing ++ piece))) (sym is)
          (onward most file q r at hs js ms piece fed missing (over fed t) some last fedfrom ahead all)

  -- what was read ends below that place
  pub room : length piece ≤ asks_for n (unwrap_or last at) → unwrap_or last at + length piece < 2 ^ 63
  room few = let low = low_from most file q at js ms g.small last ahead in omega arith

  pub room_fed : length piece ≤ asks_for n (unwrap_or last at) → unwrap_or last (fed_place q + length (fed_rest q)) + length piece < 2 ^ 63
  room_fed few =
      let here : at ≡ fed_place q + length (fed_rest q) = g.taken.size ∙ all_fed q g.some (over g.some g.taken).state in
      subst (λ k. unwrap_or last k + length piece < 2 ^ 63) here (room few)

  -- the reader goes on
  pub further : 0 < length piece → at < unwrap_or last at + length piece
  further some = let b = begun g.some g.taken in omega arith

  -- ---- the end of the file

  pub some_ends : (result : Result (Unit {0}) JobFault)
      → ((fed : List ℕ) → IsFed q fed → Stands (fed_limit q) fed (fed_marker q) (fed_place q) More → EndsSo name fed (fed_place q) result)
      → EndsSo name g.some (fed_place q) result
  some_ends result ends = ends g.some (over g.some g.taken).state (stood g.some g.taken)

  -- what is told where the bytes end
  told_end : (bytes : List ℕ) (o : Option ℕ) → TookAhead most file q js ms o → length bytes ≤ unwrap_or o at → (result : Result (Unit {0}) JobFault)
      → (fed : List ℕ) → BeginsWith bytes fed → HasTaken most file q at hs js fed → EndsSo name fed (fed_place q) result
      → ToldOf most name bytes file hs ms result
  told_end bytes = said
    where
      ends_here : js ≡ ms → (result : Result (Unit {0}) JobFault) → (fed : List ℕ) → bytes ≡ fed
          → HasTaken most file q at hs js fed → EndsSo name fed (fed_place q) result → ToldOf most name bytes file hs ms result
      ends_here same (Ok value) fed same_bytes t ends =
          let all : take (fed_place q) fed ≡ bytes = take_all (fed_place q) fed (omega (arith, ends.2)) ∙ sym same_bytes in (
            record {
              form = subst IsSequenceFile all ends.1.file;
              all = subst (λ b. AreChunks most (records_of b)) all t.chunks;
            },
            sym same ∙ t.heads ∙ ap (λ b. hs ++ filter_map (head_at most file) (records_of b)) all,
          )
      ends_here same (Err (Outside call)) fed same_bytes t ends = tt
      ends_here same (Err (Spent number)) fed same_bytes t ends = tt
      ends_here same (Err NoMemory) fed same_bytes t ends = tt
      ends_here same (Err (Damaged which place)) fed same_bytes t (found, end, damage) = (
        damage.0,
        subst (λ b. IsBadAt most b place) (sym same_bytes) (subst (IsBadAt most fed) (sym damage.1) (bad end.1)),
      )
        where
          bad : (read_header fed ≡ Err Short × (found ≡ 0)) ⊎ ((marker : List ℕ) × IsReadSo marker fed found × DamageAt marker fed found Torn)
              → IsBadAt most fed found
          bad (inl none) = no_header none.0 none.1
          bad (inr torn_there) = torn torn_there.0 torn_there.1 torn_there.2
              (subst (λ k. AreChunks most (records_of (take k fed))) (sym end.0) t.chunks)

      ends_ahead : (a : Ahead) → IsAhead q a → (result : Result (Unit {0}) JobFault) → (fed rest : List ℕ) → bytes ≡ fed ++ rest
          → length fed + length rest < a.end → HasTaken most file q at hs js fed → EndsSo name fed (fed_place q) result
          → ToldOf most name bytes file hs ms result
      ends_ahead a is (Ok value) fed rest front short t ends =
          let all = all_fed q fed t.state in let come = is.come in let last = ends.2 in absurd (let z : ⊥ = omega arith in z)
      ends_ahead a is (Err (Outside call)) fed rest front short t ends = tt
      ends_ahead a is (Err (Spent number)) fed rest front short t ends = tt
      ends_ahead a is (Err NoMemory) fed rest front short t ends = tt
      ends_ahead a is (Err (Damaged which place)) fed rest front short t (found, end, damage) =
          let there : place ≡ a.at = damage.1 ∙ end.0 ∙ sym is.at in
          let torn_there = is.torn fed rest t.state short in
          let same : take a.at (fed ++ rest) ≡ take (fed_place q) fed =
          ap (λ k. take k (fed ++ rest)) is.at ∙ take-append-le (fed_place q) fed rest t.state.within in (
            damage.0,
            subst (λ b. IsBadAt most b place) (sym front) (subst (IsBadAt most (fed ++ rest)) (sym there)
                (torn is.marker torn_there.0 torn_there.1 (subst (λ b. AreChunks most (records_of b)) (sym same) t.chunks))),
          )

      said : (o : Option ℕ) → TookAhead most file q js ms o → length bytes ≤ unwrap_or o at → (result : Result (Unit {0}) JobFault)
          → (fed : List ℕ) → BeginsWith bytes fed → HasTaken most file q at hs js fed
          → EndsSo name fed (fed_place q) result → ToldOf most name bytes file hs ms result
      said None same past result fed (rest, front) t ends =
          let all : length bytes ≡ length fed + length rest = ap length front ∙ length-append fed rest in
          let none : rest ≡ [] = nil_from_length rest (omega (arith, all, past, t.size)) in
          ends_here (sym same) result fed (front ∙ (ap (λ x. fed ++ x) none ∙ append-nil fed)) t ends
      said (Some l) (a, is, end, taken) past result fed (rest, front) t ends =
          let all : length bytes ≡ length fed + length rest = ap length front ∙ length-append fed rest in
          ends_ahead a is result fed rest front (omega (arith, all, past, end)) t ends

  pub is_ended : (result : Result (Unit {0}) JobFault) → length piece ≡ 0 → 0 < n
      → ((fed : List ℕ) → IsFed q fed → Stands (fed_limit q) fed (fed_marker q) (fed_place q) More → EndsSo name fed (fed_place q) result)
      → (f : Option File) → IsSmallFile f → Adds old new (Leads (anyhow (SparesFile name)) (Has name f) (GatheredFile most name f file hs ms result))
  is_ended result empty some ends f small =
      with_piece name f most file p at (unwrap_or last at) n hs ks piece (GatheredFile most name f file hs ms result)
      (λ h has fed front t given_is.
      let past : length (bytes_in f) ≤ unwrap_or last at =
      ended_before (bytes_in f) (unwrap_or last at) n piece given_is empty some (small_bytes f small) in
      still name f most file hs ms result h has
      (told_end (bytes_in f) last ahead past result fed front (over fed t) (ends fed (over fed t).state (stood fed t))))
      (g.raw f small) (given f)

  -- the same of what the reads gave
  pub shows_ended : (result : Result (Unit {0}) JobFault) → length piece ≡ 0 → 0 < n
      → ((fed : List ℕ) → IsFed q fed → Stands (fed_limit q) fed (fed_marker q) (fed_place q) More → EndsSo name fed (fed_place q) result)
      → Adds old new (ShowsGathered most name file hs ms result)
  shows_ended result empty some ends =
      adds_then (ShowsGathered most name file hs ms result) g.shown showed
      (λ a b history x y.
      shows_told name most file hs ms result g.some (omega (arith, g.taken.size, g.small)) (b ++ a) history
      (agree_join name g.some b a history (subst (λ w. Agree name w a history) (append-nil g.some) (x.agree []))
      (y.any g.some (none_there g.some (unwrap_or last at) (asks_for n (unwrap_or last at)) piece empty
      (let d = begun g.some g.taken in omega (arith, d, g.taken.size)))))
      (λ bytes low all.
      let f = x.each bytes (agree_early name bytes b a history all) in
      let past = past_there bytes (unwrap_or last at) n piece (y.each bytes (agree_late name bytes b a history all)) empty some low in
      told_end bytes last ahead past result f.0 f.1 (over f.0 f.2) (ends f.0 (over f.0 f.2).state (stood f.0 f.2))))

-- ---- the file is damaged

pub is_spoiled : (old now : Option History) (name : List ℕ) (most file : ℕ) (p : Pieces) (at : ℕ) (hs ks : List Head)
    → IsGathered old now name most file p at hs ks → (js : List Head) (place : ℕ) (fault : JobFault)
    → ((fed : List ℕ) → IsFed p fed → AreChunks most (records_of (take (fed_place p) fed)) → IsSpoiled most (fed_limit p) fed place)
    → IsDamage name place fault
    → (f : Option File) → IsSmallFile f → Adds old now (Leads (anyhow (SparesFile name)) (Has name f) (GatheredFile most name f file hs js (Err fault)))
is_spoiled old now name most file p at hs ks g js place fault bad damage f small =
    adds_as (Leads (anyhow (SparesFile name)) (Has name f) (GatheredFile most name f file hs js (Err fault))) (g.raw f small)
    (λ added history x. record {
      leads = λ s h.
          let y = x.leads s h in
          still name f most file hs js (Err fault) (added ++ history) y.0
          (spoiled_told name most file p at hs ks g.limit js place fault bad damage (bytes_in f) y.1 y.2 y.3);
      own = x.own;
    })

pub shows_spoiled : (old now : Option History) (name : List ℕ) (most file : ℕ) (p : Pieces) (at : ℕ) (hs ks : List Head)
    → IsGathered old now name most file p at hs ks → (js : List Head) (place : ℕ) (fault : JobFault)
    → ((fed : List ℕ) → IsFed p fed → AreChunks most (records_of (take (fed_place p) fed)) → IsSpoiled most (fed_limit p) fed place)
    → IsDamage name place fault → Adds old now (ShowsGathered {T = Unit {0}} most name file hs js (Err fault))
shows_spoiled old now name most file p at hs ks g js place fault bad damage =
    adds_as (ShowsGathered {T = Unit {0}} most name file hs js (Err fault)) g.shown
    (λ added history x.
    shows_told name most file hs js (Err fault) g.some (omega (arith, g.taken.size, g.small)) added history
    (subst (λ w. Agree name w added history) (append-nil g.some) (x.agree []))
    (λ bytes low all.
    let f = x.each bytes all in spoiled_told name most file p at hs ks g.limit js place fault bad damage bytes f.0 f.1 f.2))

-- ---- what each step is, and which one comes last

pub every_then : (P : History → Step → Type 0) {old mid new : Option History} → Adds old mid (Every P) → Adds mid new (Every P) → Adds old new (Every P)
every_then P p q = adds_then (Every P) p q (λ a b history x y. every_join P b a history x y)

-- nothing is said of the file after a failure
pub not_gathered : {P : History → History → Type 0} (name : List ℕ) (most file : ℕ) (hs js : List Head) (fault : OutsideFault) {old new : Option History}
    → Adds old new P → (f : Option File) → IsSmallFile f
    → Adds old new (Leads (anyhow (SparesFile name)) (Has name f) (GatheredFile most name f file hs js (Err (job_fault fault))))
not_gathered name most file hs js fault told f small =
    adds_as (Leads (anyhow (SparesFile name)) (Has name f) (GatheredFile most name f file hs js (Err (job_fault fault)))) told
    (λ added history x. record { leads = λ s h. said fault (added ++ history); own = owned_anyhow added history })
  where
    said : (fault : OutsideFault) (h : History) → GatheredFile most name f file hs js (Err (job_fault fault)) h
    said (site_failed call) h = tt
    said no_memory h = tt

pub fails_then : (T V : Type 0) {P : History → History → Type 0} (fault : OutsideFault) {old mid new : Option History} → Adds old mid P
    → Adds mid new (LastFailed {T = V} (Err fault)) → Adds old new (FailsLast {T = T} (Err (job_fault fault)))
fails_then T V fault so_far last =
    adds_as (FailsLast {T = T} (Err (job_fault fault)))
    (adds_then (LastFailed {T = V} (Err fault)) so_far last (λ a b history p q. last_then {T = V} (Err fault) b a history q))
    (λ added history x. said fault added history x)
  where
    said : (fault : OutsideFault) (added history : History) → LastFailed {T = V} (Err fault) added history → FailsLast {T = T} (Err (job_fault fault)) added history
    said (site_failed call) added history x = x
    said no_memory added history x = tt

pub no_failure : {T : Type 0} {P : History → History → Type 0} (result : Result T JobFault) {old new : Option History}
    → ((call : _) → result ≡ Err (Outside call) → ⊥) → Adds old new P → Adds old new (FailsLast result)
no_failure {T = T} result none told = adds_as (FailsLast result) told (λ added history x. said result none added history)
  where
    said : (result : Result T JobFault) → ((call : _) → result ≡ Err (Outside call) → ⊥) → (added history : History) → FailsLast result added history
    said (Ok value) none added history = tt
    said (Err (Outside call)) none added history = absurd (none call refl)
    said (Err (Damaged which at)) none added history = tt
    said (Err (Spent number)) none added history = tt
    said (Err NoMemory) none added history = tt

pub damage_no_call : {T : Type 0} (name : List ℕ) (at : ℕ) (fault : JobFault) → IsDamage name at fault → (call : _)
    → Path (Result T JobFault) (Err fault) (Err (Outside call)) → ⊥
damage_no_call name at (Outside other) damage call e = absurd damage
damage_no_call name at (Damaged which place) damage call e = cc
damage_no_call name at (Spent number) damage call e = cc
damage_no_call name at NoMemory damage call e = cc

pub ends_no_call : (name bytes : List ℕ) (place : ℕ) (result : Result (Unit {0}) JobFault) → EndsSo name bytes place result → (call : _)
    → result ≡ Err (Outside call) → ⊥
ends_no_call name bytes place (Ok value) ends call e = cc
ends_no_call name bytes place (Err fault) ends call e = damage_no_call name ends.0 fault ends.2 call e

-- nothing is shown of the file after another refusal
pub shows_nothing : (T : Type 0) {P : History → History → Type 0} (name : List ℕ) (most file : ℕ) (hs js : List Head) (fault : OutsideFault)
    {old new : Option History} → Adds old new P → Adds old new (ShowsGathered {T = T} most name file hs js (Err (job_fault fault)))
shows_nothing T name most file hs js fault told =
    adds_as (ShowsGathered {T = T} most name file hs js (Err (job_fault fault))) told (λ added history x. said fault added history)
  where
    said : (fault : OutsideFault) (added history : History) → ShowsGathered {T = T} most name file hs js (Err (job_fault fault)) added history
    said (site_failed call) added history = tt
    said no_memory added history = tt

-- ---- with the count

-- what is shown is the same where a count is given
pub shows_counted : (name : List ℕ) (most file : ℕ) (hs ks : List Head) (count : ℕ) {old new : Option History}
    → Adds old new (ShowsGathered {T = Unit {0}} most name file hs ks (Ok tt))
    → Adds old new (ShowsGathered {T = ℕ} most name file hs ks (Ok count))
shows_counted name most file hs ks count told = adds_as (ShowsGathered {T = ℕ} most name file hs ks (Ok count)) told (λ added history x. x)

pub shows_back : (name : List ℕ) (most file : ℕ) (hs ks js : List Head) (fault : JobFault) {old new : Option History}
    → Adds old new (ShowsGathered {T = Unit {0}} most name file hs ks (Err fault))
    → Adds old new (ShowsGathered {T = ℕ} most name file hs js (Err fault))
shows_back name most file hs ks js fault told =
    adds_as (ShowsGathered {T = ℕ} most name file hs js (Err fault)) told (λ added history x. said fault added history x)
  where
    said : (fault : JobFault) (added history : History) → ShowsGathered {T = Unit {0}} most name file hs ks (Err fault) added history
        → ShowsGathered {T = ℕ} most name file hs js (Err fault) added history
    said (Outside call) added history x = tt
    said (Damaged which at) added history x = x
    said (Spent number) added history x = tt
    said NoMemory added history x = tt

pub counted : (name : List ℕ) (most file : ℕ) (hs ks : List Head) (count : ℕ) (f : Option File) {old new : Option History}
    → count ≡ length ks - length hs
    → Adds old new (Leads (anyhow (SparesFile name)) (Has name f) (GatheredFile most name f file hs ks (Ok tt)))
    → Adds old new (Leads (anyhow (SparesFile name)) (Has name f) (Gathered most name f file hs ks (Ok count)))
counted name most file hs ks count f is told =
    adds_as (Leads (anyhow (SparesFile name)) (Has name f) (Gathered most name f file hs ks (Ok count))) told
    (λ added history x. record {
      leads = λ s h.
          let y = x.leads s h in
          let size = ap length y.2 ∙ length-append hs (heads_in most file (bytes_in f)) in
          (y.0, y.1, y.2, (let z : count ≡ length (heads_in most file (bytes_in f)) = omega arith in z));
      own = x.own;
    })

pub taken_back : (name : List ℕ) (most file : ℕ) (hs ks js : List Head) (fault : JobFault) (f : Option File) {old new : Option History} → js ≡ hs
    → Adds old new (Leads (anyhow (SparesFile name)) (Has name f) (GatheredFile most name f file hs ks (Err fault)))
    → Adds old new (Leads (anyhow (SparesFile name)) (Has name f) (Gathered most name f file hs js (Err fault)))
taken_back name most file hs ks js fault f same told =
    adds_as (Leads (anyhow (SparesFile name)) (Has name f) (Gathered most name f file hs js (Err fault))) told
    (λ added history x. record { leads = λ s h. said fault (added ++ history) (x.leads s h); own = x.own })
  where
    said : (fault : JobFault) (h : History) → GatheredFile most name f file hs ks (Err fault) h → Gathered most name f file hs js (Err fault) h
    said (Outside call) h x = same
    said (Damaged which at) h x = (same, x.0, x.1)
    said (Spent number) h x = same
    said NoMemory h x = same

pub back_again : (hs ks js : List Head) (n : ℕ) → n ≡ length hs → (more : List Head) → ks ≡ hs ++ more → js ≡ take n ks → js ≡ hs
back_again hs ks js n is more grown e = e ∙ (ap (take n) grown ∙ take_at hs more n (sym is))
