-- Each chunk of a post that a collector has taken is a true one.
use Rattle.std.proofs.Common.{◌≡◌, inl, inr, ℕ, zero, suc, ◌<◌, Bool, true, false, List, [], ◌∷◌, ◌++◌, length, map, Option, Some, None, ap, sym, subst, ◌∙◌, refl, arith, true≢false, if◌then◌else◌, MatchBool}
use Rattle.std.specs.Prelude.{IsTrue, Contains, IsSome, slice_index_or, ◌==◌}
use Rattle.std.proofs.lemmas.Option.{same_Some, none-some}
use Rattle.chk_bytes.specs.Words.{BeginsWith}
use Rattle.chk_site.specs.declared.acts.Role.{Role}
use Rattle.chk_site.specs.declared.acts.Role.TheVariants.{Agent, Collector, Job, Writer}
use Rattle.chk_site.specs.declared.acts.Who.{Who}
use Rattle.chk_site.specs.declared.acts.ActAnswer.{ActAnswer}
use Rattle.chk_site.specs.declared.acts.ActAnswer.TheVariants.{Done, Stopped}
use Rattle.chk_site.specs.Files.{Files}
use Rattle.chk_site.specs.Acts.{Deed, Starts, Appends, Syncs, Sends, Takes, TakesMore, Answers, deed, is_done, same_who}
use Rattle.chk_site.specs.History.{Step, History, files_after, is_by}
use Rattle.chk_site.specs.Messages.{Message, Taken, message, message_in, taken, taken_in, with_more}
use Rattle.chk_site.specs.Honest.{Agrees, AtMore, IsFrontOf, TakenPrefix}
use Rattle.chk_chunk.specs.Keys.{Stream, Chunk}
use Rattle.chk_http_grammar.specs.Messages.{PostRequest, IsPostOf, WrittenPost, WrittenPoll}
use Rattle.chk_http_grammar.proofs.Accepted.{PostRequest-append}
use Rattle.chk_http_grammar.proofs.Fronts.{front_of_post_chunks, front_of_poll_is_no_post}
use Rattle.chk_world.specs.Names.{is_source, stop_names}
use Rattle.chk_world.specs.Checkpoints.{Line, line_of}
use Rattle.chk_world.specs.Streams.{Founding, founding, founded_by, or_else}
use Rattle.chk_world.specs.Agents.{AgentRule}
use Rattle.chk_world.specs.Collectors.{View, Handling, new_view, no_more_newest, with_bytes, with_answer, with_sync, with_appends, handled_after, view_after, view}
use Rattle.chk_world.specs.Rules.{Legal, RoleMay, OnlyAgentsPost, is_named_so}
use Rattle.chk_world.proofs.Forms.{post_valid}
use Rattle.chk_world.proofs.Law.{who_same}
use Rattle.chk_world.proofs.ToldCalls.{who_self}
use Rattle.chk_world.proofs.NameTests.{nat_same, nat_self}
use Rattle.chk_world.proofs.StaysTrue.{SendsChunk, IsFoundedChunk, founded_after, stays_true}

-- each chunk of a post that the bytes begin with is a true one
abbrev pub PostsTrue : History → List ℕ → Type 0
PostsTrue history bytes = (chunks : List Chunk) → IsPostOf chunks bytes → (c : Chunk) → Contains chunks c → IsFoundedChunk history c

-- each chunk of a post that a front of the bytes begins with is a true one
abbrev pub FrontsTrue : History → List ℕ → Type 0
FrontsTrue history bytes = (front : List ℕ) → BeginsWith bytes front → PostsTrue history front

-- ---- what is sent

-- a stream that has a line has begun
pub founded_line : (history : History) (s : Stream) → IsSome (line_of (files_after history) s) → (f : Founding) × (founding history s ≡ Some f)
founded_line [] s h = absurd (true≢false (sym h))
founded_line (step ∷ history) s h = go (founding history s) (line_of step.files s) h
  where
    go : (o : Option Founding) (l : Option Line) → IsSome l
        → (f : Founding) × (or_else o (founded_by l (step.logs s.name)) ≡ Some f)
    go (Some f) l h = (f, refl)
    go None (Some l) h = (record { line = l; rotated = (step.logs s.name).rotated }, refl)
    go None None h = absurd (true≢false (sym h))

sent_founded : (stamped : List (List ℕ)) (history : History) (step : Step) → Legal stamped (step ∷ history) → (c : Chunk) (chunks : List Chunk)
    (bytes : List ℕ) → IsTrue (is_source step.act.who.name) → IsPostOf chunks bytes → Contains chunks c → SendsChunk history step c
    → IsFoundedChunk (step ∷ history) c
sent_founded stamped history step legal c chunks bytes named post one sends =
    let may = sends.may in
    let f = founded_line history c.key.stream may.known in
    founded_after stamped history step legal c (subst (λ n. IsTrue (is_source n)) (sym may.source) named) f.0 f.1
    (post_valid chunks bytes post c one) may.is_true (inl sends)

agent_sends : (stamped : List (List ℕ)) (history : History) (step : Step) → Legal stamped (step ∷ history) → (k : ℕ) (address bytes : List ℕ)
    → step.act.who.role ≡ Agent → IsTrue (is_source step.act.who.name) → deed step.act ≡ Sends k address bytes
    → AgentRule step.act.who history step (Sends k address bytes) → FrontsTrue (step ∷ history) bytes
agent_sends stamped history step legal k address bytes agent named call (inl s) front begins chunks post c one =
    let rest = begins.0 in
    let same : chunks ≡ s.chunks =
    (front_of_post_chunks address s.chunks chunks front rest (subst (WrittenPost address s.chunks) begins.1 s.is_post) post).1 in
    let among : Contains s.chunks c = subst (λ cs. Contains cs c) same one in
    sent_founded stamped history step legal c chunks front named post one (record {
      agent = agent;
      m = k;
      address = address;
      bytes = bytes;
      call = call;
      chunks = s.chunks;
      is_post = s.is_post;
      one = among;
      may = s.each c among;
    })
agent_sends stamped history step legal k address bytes agent named call (inr p) front begins chunks post c one =
    absurd (front_of_poll_is_no_post address p.0 post.0 front begins.0 (subst (WrittenPoll address p.0) begins.1 p.1) post.1)

send_true : (stamped : List (List ℕ)) (history : History) (step : Step) → Legal stamped (step ∷ history) → (k : ℕ) (address bytes : List ℕ)
    → deed step.act ≡ Sends k address bytes → FrontsTrue (step ∷ history) bytes
send_true stamped history step legal k address bytes is =
    go step.act.who.role refl (subst (OnlyAgentsPost step.act.who.role) is legal.1.requests)
  where
    none : ¬ ((chunks : List Chunk) × IsPostOf chunks bytes) → FrontsTrue (step ∷ history) bytes
    none never front begins chunks post c one =
        absurd (never (chunks, (post.0, subst (PostRequest post.0) (sym begins.1) (PostRequest-append post.0 front begins.0 post.1), post.2)))

    go : (role : Role) → step.act.who.role ≡ role → OnlyAgentsPost role (Sends k address bytes) → FrontsTrue (step ∷ history) bytes
    go Agent r never =
        agent_sends stamped history step legal k address bytes r (subst (λ role. IsTrue (is_named_so role step.act.who.name)) r legal.1.named) is
        (subst (AgentRule step.act.who history step) is (subst (λ role. RoleMay stamped role history step) r legal.1.rule))
    go Collector r never = none never
    go Job r never = none never
    go Writer r never = none never

-- of a message that was sent
pub sent_true : (stamped : List (List ℕ)) (history : History) → Legal stamped history → (n : ℕ) (m : Message) → message history n ≡ Some m
    → FrontsTrue history m.bytes
sent_true stamped [] legal n m e = absurd (none-some m e)
sent_true stamped (step ∷ history) legal n m e = go (deed step.act) refl e (sent_true stamped history legal.0 n m)
  where
    later : FrontsTrue history m.bytes → FrontsTrue (step ∷ history) m.bytes
    later h front begins chunks post c one = stays_true stamped history step legal c (h front begins chunks post c one)

    go : (call : Deed) → deed step.act ≡ call → message_in n call step.act.who (is_done step.act.answer) (message history n) ≡ Some m
        → (message history n ≡ Some m → FrontsTrue history m.bytes) → FrontsTrue (step ∷ history) m.bytes
    go (Sends k address bytes) is e earlier = pick (n == k) e
      where
        pick : (b : Bool)
            → (if b then Some (record { sender = step.act.who; address = address; bytes = bytes; done = is_done step.act.answer }) else message history n) ≡ Some m
            → FrontsTrue (step ∷ history) m.bytes
        pick true e =
            let same : bytes ≡ m.bytes = ap (λ (m : Message). m.bytes) (same_Some (record { sender = step.act.who; address = address; bytes = bytes; done = is_done step.act.answer }) m e) in
            subst (FrontsTrue (step ∷ history)) same (send_true stamped history step legal k address bytes is)
        pick false e = later (earlier e)
    go call is e earlier = later (earlier e)

-- ---- what is taken

abbrev with_bytes_behind : List ℕ → Taken → Taken
with_bytes_behind bytes t = record { taker = t.taker; door = t.door; of = t.of; bytes = t.bytes ++ bytes }

-- the message was taken by this process so, and its posts are true
pub record IsTakenTrue (takes : ℕ → Option Taken) (me : Who) (posts : List ℕ → Type 0) (h : Handling) : Type 0 where
  pub t : Taken
  pub is : takes h.taking ≡ Some t
  pub taker : same_who me t.taker ≡ true
  pub same : h.bytes ≡ t.bytes
  pub posts_true : posts h.bytes

abbrev pub AllOf : (Handling → Type 0) → List Handling → Type 0
AllOf P [] = Unit {0}
AllOf P (h ∷ hs) = P h × AllOf P hs

pub all_one : (P : Handling → Type 0) (hs : List Handling) (h : Handling) → AllOf P hs → Contains hs h → P h
all_one P hs h all c = go hs all c.0 c.1 c.2
  where
    go : (hs : List Handling) → AllOf P hs → (k : ℕ) → k < length hs → slice_index_or hs k h ≡ h → P h
    go [] all k below at = absurd (let z : ⊥ = omega arith in z)
    go (g ∷ hs) all zero below at = subst P at all.0
    go (g ∷ hs) all (suc k) below at = go hs all.1 k (omega arith) at

pub all_map : (P Q : Handling → Type 0) (g : Handling → Handling) → ((h : Handling) → P h → Q (g h)) → (hs : List Handling) → AllOf P hs → AllOf Q (map g hs)
all_map P Q g keeps [] all = tt
all_map P Q g keeps (h ∷ hs) all = (keeps h all.0, all_map P Q g keeps hs all.1)

pub all_same : (P Q : Handling → Type 0) → ((h : Handling) → P h → Q h) → (hs : List Handling) → AllOf P hs → AllOf Q hs
all_same P Q keeps [] all = tt
all_same P Q keeps (h ∷ hs) all = (keeps h all.0, all_same P Q keeps hs all.1)

module _ (stamped : List (List ℕ)) (history : History) (legal : Legal stamped history) (me : Who) (collects : me.role ≡ Collector) where
  abbrev Now : Handling → Type 0
  Now h = IsTakenTrue (taken history) me (PostsTrue history) h

  abbrev Then : Deed → ActAnswer → Who → Handling → Type 0
  Then call answer who h = IsTakenTrue (λ n. taken_in n call answer who (taken history n)) me (PostsTrue history) h

  front_posts : (of : ℕ) (bytes : List ℕ) (o : Option Message) → message history of ≡ o → IsFrontOf o bytes → PostsTrue history bytes
  front_posts of bytes None e h = absurd h
  front_posts of bytes (Some m) e h = sent_true stamped history legal of m e bytes h

  prefix_posts : (taker : Who) (of : ℕ) (bytes : List ℕ) → taker.role ≡ Collector → TakenPrefix taker.role of (message history of) bytes → PostsTrue history bytes
  prefix_posts taker of bytes r h =
      front_posts of bytes (message history of) refl (subst (λ role. TakenPrefix role of (message history of) bytes) r h)

  -- a taking under a new number leaves the others
  fresh_apart : (n number : ℕ) (t : Taken) → taken history n ≡ Some t → taken history number ≡ None → (A : Type 0) (x y : Option Taken)
      → y ≡ Some t → (if n == number then x else y) ≡ Some t
  fresh_apart n number t e none A x y same = go (n == number) refl
    where
      go : (b : Bool) → (n == number) ≡ b → (if b then x else y) ≡ Some t
      go true k = absurd (none-some t (sym none ∙ (ap (taken history) (sym (nat_same n number k)) ∙ e)))
      go false k = same

  -- what others take
  pub others : (who : Who) → same_who me who ≡ false → (call : Deed) (answer : ActAnswer) → Agrees history who call answer
      → (h : Handling) → Now h → Then call answer who h
  others who other call answer agrees h now = record {
    t = now.t;
    is = go call answer agrees;
    taker = now.taker;
    same = now.same;
    posts_true = now.posts_true;
  }
    where
      not_taker : same_who who now.t.taker ≡ false
      not_taker = pick (same_who who now.t.taker) refl
        where
          pick : (b : Bool) → same_who who now.t.taker ≡ b → b ≡ false
          pick false e = refl
          pick true e =
              absurd (true≢false (sym (subst (λ w. same_who me w ≡ true) (sym (who_same who now.t.taker e)) now.taker) ∙ other))

      go : (call : Deed) (answer : ActAnswer) → Agrees history who call answer → taken_in h.taking call answer who (taken history h.taking) ≡ Some now.t
      go (Takes door wait) (Done (bytes ∷ words) number of) agrees =
          fresh_apart h.taking number now.t now.is agrees.0.2 (Unit {0}) (Some (record { taker = who; door = door; of = of; bytes = bytes })) (taken history h.taking) now.is
      go (TakesMore n) (Done (bytes ∷ words) number of) agrees = pick (h.taking == n)
        where
          pick : (b : Bool) → (if b then with_more who bytes (taken history h.taking) else taken history h.taking) ≡ Some now.t
          pick true = ap (with_more who bytes) now.is ∙ ap (λ b. if b then Some (record { taker = now.t.taker; door = now.t.door; of = now.t.of; bytes = now.t.bytes ++ bytes }) else Some now.t) not_taker
          pick false = now.is
      go call answer agrees = now.is

  -- a call that takes nothing
  as_before : (call : Deed) (answer : ActAnswer) (g : Handling → Handling) → ((n : ℕ) → taken_in n call answer me (taken history n) ≡ taken history n)
      → ((h : Handling) → (g h).taking ≡ h.taking) → ((h : Handling) → (g h).bytes ≡ h.bytes) → (h : Handling) → Now h → Then call answer me (g h)
  as_before call answer g none t b h now = record {
    t = now.t;
    is = ap (λ n. taken_in n call answer me (taken history n)) (t h) ∙ (none h.taking ∙ now.is);
    taker = now.taker;
    same = b h ∙ now.same;
    posts_true = subst (PostsTrue history) (sym (b h)) now.posts_true;
  }

  -- what the process has taken is true after each call of its own
  own : (call : Deed) (answer : ActAnswer) (after : Files) → Agrees history me call answer → (hs : List Handling) → AllOf Now hs
      → AllOf (Then call answer me) (handled_after call answer after hs)
  own (Takes door wait) (Done (bytes ∷ words) number of) after agrees hs all = (
    record {
      t = record { taker = me; door = door; of = of; bytes = bytes };
      is = ap (λ b. if b then Some (record { taker = me; door = door; of = of; bytes = bytes }) else taken history number) (nat_self number);
      taker = who_self me;
      same = refl;
      posts_true = prefix_posts me of bytes collects agrees.0.3;
    },
    all_map Now (Then (Takes door wait) (Done (bytes ∷ words) number of) me) no_more_newest (λ h now. record {
      t = now.t;
      is = fresh_apart h.taking number now.t now.is agrees.0.2 (Unit {0}) (Some (record { taker = me; door = door; of = of; bytes = bytes })) (taken history h.taking) now.is;
      taker = now.taker;
      same = now.same;
      posts_true = now.posts_true;
    }) hs all,
  )
  own (TakesMore n) (Done (bytes ∷ words) number of) after agrees hs all =
      all_map Now (Then (TakesMore n) (Done (bytes ∷ words) number of) me) (with_bytes n bytes) (λ h now. more h now (h.taking == n) refl) hs all
    where
      one_of : (xs : List (List ℕ)) → List ℕ
      one_of [] = []
      one_of (x ∷ xs) = x

      more : (h : Handling) → Now h → (b : Bool) → (h.taking == n) ≡ b → Then (TakesMore n) (Done (bytes ∷ words) number of) me (with_bytes n bytes h)
      more h now true e =
          let at : taken history n ≡ Some now.t = ap (taken history) (sym (nat_same h.taking n e)) ∙ now.is in
          let m : MatchBool (same_who me now.t.taker) _ _ = subst (λ o. AtMore history me o (bytes ∷ words)) at agrees in
          let k = subst (λ b. MatchBool b ((more : List ℕ) × (bytes ∷ words ≡ more ∷ []) × TakenPrefix now.t.taker.role now.t.of (message history now.t.of) (now.t.bytes ++ more)) (bytes ∷ words ≡ [] ∷ [])) now.taker m in
          let it : bytes ≡ k.0 = ap one_of k.1 in
          let taker : me ≡ now.t.taker = who_same me now.t.taker now.taker in
          let role : now.t.taker.role ≡ Collector = ap (λ (w : Who). w.role) (sym taker) ∙ collects in
          let posts = prefix_posts now.t.taker now.t.of (now.t.bytes ++ bytes) role (subst (λ l. TakenPrefix now.t.taker.role now.t.of (message history now.t.of) (now.t.bytes ++ l)) (sym it) k.2) in
          let grown : (with_bytes n bytes h).bytes ≡ now.t.bytes ++ bytes = ap (λ b. if b then h.bytes ++ bytes else h.bytes) e ∙ ap (λ l. l ++ bytes) now.same in
          record {
            t = with_bytes_behind bytes now.t;
            is = ap (λ b. if b then with_more me bytes (taken history h.taking) else taken history h.taking) e
                ∙ (ap (with_more me bytes) now.is ∙ ap (λ b. if b then Some (with_bytes_behind bytes now.t) else Some now.t) now.taker);
            taker = now.taker;
            same = grown;
            posts_true = subst (PostsTrue history) (sym grown) posts;
          }
      more h now false e =
          let as_it_was : (with_bytes n bytes h).bytes ≡ h.bytes = ap (λ b. if b then h.bytes ++ bytes else h.bytes) e in
          record {
            t = now.t;
            is = ap (λ b. if b then with_more me bytes (taken history h.taking) else taken history h.taking) e ∙ now.is;
            taker = now.taker;
            same = as_it_was ∙ now.same;
            posts_true = subst (PostsTrue history) (sym as_it_was) now.posts_true;
          }
  own (Answers t bytes) answer after agrees hs all =
      all_map Now (Then (Answers t bytes) answer me) (with_answer t) (as_before (Answers t bytes) answer (with_answer t) (λ n. refl) (λ h. refl) (λ h. refl)) hs all
  own (Syncs w) answer after agrees hs all =
      all_map Now (Then (Syncs w) answer me) with_sync (as_before (Syncs w) answer with_sync (λ n. refl) (λ h. refl) (λ h. refl)) hs all
  own (Appends w piece) (Done words number of) after agrees hs all =
      all_map Now (Then (Appends w piece) (Done words number of) me) (with_appends _)
      (as_before (Appends w piece) (Done words number of) (with_appends _) (λ n. refl) (λ h. refl) (λ h. refl)) hs all
  own call answer after agrees hs all =
      all_same Now (Then call answer me) (as_before call answer (λ h. h) (λ n. refl) (λ h. refl) (λ h. refl)) hs all

-- what a collector sees of its messages after a step
pub handled_is : (who : Who) (own : Bool) (call : Deed) (answer : ActAnswer) (before after : Files) (v : View)
    → (view_after who own call answer before after v).handled ≡ (if own then handled_after call answer after v.handled else v.handled)
handled_is who true Starts (Stopped left) before after v = refl
handled_is who true call (Stopped left) before after v = refl
handled_is who false call (Stopped left) before after v = go (stop_names who left)
  where
    go : (b : Bool) → (if b then new_view v.handled else v).handled ≡ v.handled
    go true = refl
    go false = refl
handled_is who true Starts answer before after v = refl
handled_is who true call answer before after v = refl
handled_is who false call answer before after v = refl

abbrev pub TakenTrue : History → Who → Handling → Type 0
TakenTrue history me h = IsTakenTrue (taken history) me (PostsTrue history) h

-- all that a collector ever took has true posts
pub taken_true : (stamped : List (List ℕ)) (history : History) → Legal stamped history → (me : Who) → me.role ≡ Collector
    → AllOf (TakenTrue history me) (view me history).handled
taken_true stamped [] legal me collects = tt
taken_true stamped (step ∷ history) legal me collects =
    subst (AllOf (TakenTrue (step ∷ history) me)) (sym (handled_is me (is_by me step) (deed step.act) step.act.answer (files_after history) step.files (view me history)))
    (go (is_by me step) refl (taken_true stamped history legal.0 me collects))
  where
    later : (h : Handling) → Then stamped history legal.0 me collects (deed step.act) step.act.answer step.act.who h → TakenTrue (step ∷ history) me h
    later h then_h = record {
      t = then_h.t;
      is = then_h.is;
      taker = then_h.taker;
      same = then_h.same;
      posts_true = λ chunks post c one. stays_true stamped history step legal c (then_h.posts_true chunks post c one);
    }

    go : (b : Bool) → is_by me step ≡ b → AllOf (Now stamped history legal.0 me collects) (view me history).handled
        → AllOf (TakenTrue (step ∷ history) me) (if b then handled_after (deed step.act) step.act.answer step.files (view me history).handled else (view me history).handled)
    go true e all =
        let who : step.act.who ≡ me = sym (who_same me step.act.who e) in
        all_same (Then stamped history legal.0 me collects (deed step.act) step.act.answer step.act.who) (TakenTrue (step ∷ history) me) later _
        (subst (λ w. AllOf (Then stamped history legal.0 me collects (deed step.act) step.act.answer w) (handled_after (deed step.act) step.act.answer step.files (view me history).handled)) (sym who)
        (own stamped history legal.0 me collects (deed step.act) step.act.answer step.files
        (subst (λ w. Agrees history w (deed step.act) step.act.answer) who legal.1.honest.agrees) (view me history).handled all))
    go false e all =
        all_same (Now stamped history legal.0 me collects) (TakenTrue (step ∷ history) me)
        (λ h now. later h (others stamped history legal.0 me collects step.act.who e (deed step.act) step.act.answer legal.1.honest.agrees h now)) (view me history).handled all
