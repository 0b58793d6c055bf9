-- The puts of a post's chunks, as far as they've come.
use Rattle.std.proofs.Common.{◌≡◌, inl, inr, ℕ, Bool, true, false, true≢false, List, [], ◌∷◌, ◌++◌, length, map, Option, Result, Ok, Err, refl, sym, ap, subst, ◌∙◌, append-nil, arith}
use Rattle.std.specs.Prelude.{Contains}
use Rattle.std.proofs.lemmas.List.{length-map}
use Rattle.std.proofs.lemmas.List.Elements.{Contains-append_right}
use Rattle.chk_bytes.specs.Stems.{Stem}
use Rattle.chk_site.specs.History.{History, is_stopped}
use Rattle.chk_site.specs.Site.{Adds}
use Rattle.chk_site.specs.Runs.{Leads}
use Rattle.chk_chunk.specs.Keys.{Chunk}
use Rattle.chk_http_grammar.specs.Messages.{Ack, ack_of, ack_text}
use Rattle.chk_world.specs.Collectors.{Handling, Appended, IsPosted, Tells, TellAll, view, with_appends}
use Rattle.chk_world.specs.Places.{As}
use Rattle.chk_sink.specs.declared.fault.SinkFault.{SinkFault}
use Rattle.chk_sink.specs.States.{State, process}
use Rattle.chk_sink.specs.Held.{Handles, Ready}
use Rattle.chk_sink.specs.Puts.{IsHeader, AreHeaders, IsAnswered, Wrote}
use Rattle.chk_sink.specs.Closes.{OnceDone}
use Rattle.chk_sink.proofs.Putting.{posted_on, appends_join}
use Rattle.chk_sink.proofs.Holding.{told_by}
use Rattle.chk_collector.specs.Answering.{TellFirst}
use Rattle.chk_collector.specs.Posting.{TellEach, TellAppends, WroteAll}
use Rattle.chk_site.proofs.Family.{leads_family}
use Rattle.chk_collector.proofs.Lines.{acks_text-more}

-- ---- lines and appends

-- appends before them don't matter
tell_behind : (cs : List Chunk) (acks : List Ack) (more ws : List Appended) → TellAll cs acks ws → TellAll cs acks (more ++ ws)
tell_behind cs acks [] ws h = h
tell_behind [] [] (v ∷ more) ws h = tt
tell_behind [] (a ∷ acks) (v ∷ more) ws h = absurd h
tell_behind (c ∷ cs) [] (v ∷ more) ws h = absurd h
tell_behind (c ∷ cs) (a ∷ acks) (v ∷ more) ws h = inr (tell_behind (c ∷ cs) (a ∷ acks) more ws h)

-- one more line, of the last append
tell_more : (cs : List Chunk) (acks : List Ack) (ws earlier : List Appended) (c : Chunk) (a : Ack) (w : Appended) → TellAll cs acks ws → Tells c a w
    → TellAll (cs ++ c ∷ []) (acks ++ a ∷ []) (ws ++ (earlier ++ w ∷ []))
tell_more [] [] ws earlier c a w h t =
    tell_behind (c ∷ []) (a ∷ []) ws (earlier ++ w ∷ []) (tell_behind (c ∷ []) (a ∷ []) earlier (w ∷ []) (inl (t, tt)))
tell_more [] (b ∷ acks) ws earlier c a w h t = absurd h
tell_more (d ∷ cs) [] ws earlier c a w h t = absurd h
tell_more (d ∷ cs) (b ∷ acks) [] earlier c a w h t = absurd h
tell_more (d ∷ cs) (b ∷ acks) (v ∷ ws) earlier c a w (inl h) t = inl (h.0, tell_more cs acks ws earlier c a w h.1 t)
tell_more (d ∷ cs) (b ∷ acks) (v ∷ ws) earlier c a w (inr h) t = inr (tell_more (d ∷ cs) (b ∷ acks) ws earlier c a w h t)

-- an append's own end and sink
tells_itself : (c : Chunk) (a : Ack) (w : Appended) → Tells c a w → Tells c (ack_of w.stem w.end) w
tells_itself c a w t = record { stem = refl; end = refl; entry = t.entry; is = t.is; piece = t.piece }

-- one more record, behind headers
each_behind : (c : Chunk) (headers : List Appended) (w : Appended) → AreHeaders headers → Tells c (ack_of w.stem w.end) w
    → TellEach (c ∷ []) (headers ++ w ∷ [])
each_behind c [] w h t = inr (t, tt)
each_behind c (v ∷ headers) w h t = inl (h.0, each_behind c headers w h.1 t)

each_more : (cs : List Chunk) (ws headers : List Appended) (c : Chunk) (w : Appended) → TellEach cs ws → AreHeaders headers
    → Tells c (ack_of w.stem w.end) w → TellEach (cs ++ c ∷ []) (ws ++ (headers ++ w ∷ []))
each_more [] [] headers c w e h t = each_behind c headers w h t
each_more [] (v ∷ ws) headers c w e h t = inl (e.0, each_more [] ws headers c w e.1 h t)
each_more (d ∷ cs) [] headers c w e h t = absurd e
each_more (d ∷ cs) (v ∷ ws) headers c w (inl e) h t = inl (e.0, each_more (d ∷ cs) ws headers c w e.1 h t)
each_more (d ∷ cs) (v ∷ ws) headers c w (inr e) h t = inr (e.0, each_more cs ws headers c w e.1 h t)

-- ---- the first chunks

header_before : (cs : List Chunk) (w : Appended) (ws : List Appended) → IsHeader w → TellFirst cs ws → TellFirst cs (w ∷ ws)
header_before [] w ws h f = (h, f)
header_before (c ∷ cs) w ws h f = inl (h, f)

headers_before : (cs : List Chunk) (headers ws : List Appended) → AreHeaders headers → TellFirst cs ws → TellFirst cs (headers ++ ws)
headers_before cs [] ws h f = f
headers_before cs (w ∷ headers) ws h f = header_before cs w (headers ++ ws) h.0 (headers_before cs headers ws h.1 f)

-- a put appended the chunk's record, or none
answered_first : (c : Chunk) (rest : List Chunk) (result : Result (Stem × ℕ) SinkFault) (more : List Appended) → IsAnswered c result more
    → TellFirst (c ∷ rest) more
answered_first c rest (Ok placed) more answer =
    subst (λ ws. TellFirst (c ∷ rest) ws) (sym answer.is)
    (headers_before (c ∷ rest) answer.earlier (answer.last ∷ []) answer.begins
    (inr (tells_itself c (ack_of placed.0 placed.1) answer.last answer.tells, tt)))
answered_first c rest (Err fault) more answer =
    subst (λ ws. TellFirst (c ∷ rest) ws) (append-nil more) (headers_before (c ∷ rest) more [] answer tt)

-- behind a record for each of the chunks before
each_then : (cs rest : List Chunk) (ws more : List Appended) → TellEach cs ws → TellFirst rest more → TellFirst (cs ++ rest) (ws ++ more)
each_then [] rest [] more e f = f
each_then [] rest (w ∷ ws) more e f = header_before rest w (ws ++ more) e.0 (each_then [] rest ws more e.1 f)
each_then (c ∷ cs) rest [] more e f = absurd e
each_then (c ∷ cs) rest (w ∷ ws) more (inl e) f = inl (e.0, each_then (c ∷ cs) rest ws more e.1 f)
each_then (c ∷ cs) rest (w ∷ ws) more (inr e) f = inr (e.0, each_then cs rest ws more e.1 f)

-- ---- the line of a chunk that was put

pub tells_on : (cs : List Chunk) (c : Chunk) (x : Stem) (n : ℕ) (lines lines' : List ℕ) (appends more : List Appended) → lines' ≡ lines ++ ack_text (ack_of x n)
    → TellAppends cs lines appends → IsAnswered c (Ok (x, n)) more → TellAppends (cs ++ c ∷ []) lines' (appends ++ more)
tells_on cs c x n lines lines' appends more line told answer = record {
  acks = told.acks ++ ack_of x n ∷ [];
  lines_are = line ∙ (ap (λ t. t ++ ack_text (ack_of x n)) told.lines_are ∙ acks_text-more told.acks (ack_of x n));
  tell = subst (λ ws. TellAll (cs ++ c ∷ []) (told.acks ++ ack_of x n ∷ []) (appends ++ ws)) (sym answer.is)
      (tell_more cs told.acks appends answer.earlier c (ack_of x n) answer.last told.tell answer.tells);
  each = subst (λ ws. TellEach (cs ++ c ∷ []) (appends ++ ws)) (sym answer.is)
      (each_more cs appends answer.earlier c answer.last told.each answer.begins (tells_itself c (ack_of x n) answer.last answer.tells));
}

-- ---- one put

-- what it leads to, whatever was taken before
abbrev pub PutsOne : Option History → Option History → State → State → Chunk → Result (Stem × ℕ) SinkFault → Type 0
PutsOne now new s s' c result =
    (stamped : List (List ℕ)) (handled : List Handling) → IsPosted handled c
    → Adds now new (Leads (As stamped (process s)) (Ready stamped s handled) (Wrote stamped s' handled c result))

contains_more : {A : Type 0} (xs : List A) (y x : A) → Contains xs x → Contains (y ∷ xs) x
contains_more xs y x h = Contains-append_right (y ∷ []) xs x h

posted_more : (handled : List Handling) (m : Handling) (c : Chunk) → IsPosted handled c → IsPosted (m ∷ handled) c
posted_more handled m c p = record {
  message = p.message;
  taken = contains_more handled m p.message p.taken;
  open_yet = p.open_yet;
  chunks = p.chunks;
  post = p.post;
  one = p.one;
}

-- a history has its messages, and not one more
never_more : (hs handled : List Handling) (m : Handling) (a b : List Appended) → hs ≡ map (with_appends a) handled
    → hs ≡ map (with_appends b) (m ∷ handled) → ⊥
never_more hs handled m a b e f =
    omega (arith, ap length e, ap length f, length-map handled (with_appends a), length-map handled (with_appends b))

module _ (stamped : List (List ℕ)) (handled : List Handling) (s s' : State) (c : Chunk) (result : Result (Stem × ℕ) SinkFault) (posted : IsPosted handled c)
    (done rest chunks : List Chunk) (whole : chunks ≡ done ++ c ∷ rest) (lines lines' : List ℕ) (final : Result (Unit {0}) SinkFault) where
  -- the messages that may have been taken
  abbrev Takings : Type 0
  Takings = (hs : List Handling) × IsPosted hs c

  -- what the put leads to, of whichever was
  abbrev Each : History → History → Type 0
  Each added h = (i : Takings) → Ready stamped s i.0 h → Wrote stamped s' i.0 c result (added ++ h)

  -- what is known of the lines behind it
  abbrev Line : Type 0
  Line = (appends more : List Appended) → TellAppends done lines appends → IsAnswered c result more
      → OnceDone final (TellAppends chunks lines' (appends ++ more))

  -- after a stop nothing goes on
  stopped : (added h : History) → is_stopped h ≡ true → Each added h → WroteAll stamped s handled done lines (Ok tt) h
      → WroteAll stamped s' handled chunks lines' final (added ++ h)
  stopped added h e each p =
      let ready : (hs : List Handling) → Ready stamped s hs h =
      λ hs. record { legal = p.legal; may_act = p.may_act; alive = λ r. absurd (true≢false (sym e ∙ r)) } in
      let one = each (handled, posted) (ready handled) in
      let two = each (posted.message ∷ handled, posted_more handled posted.message c posted) (ready (posted.message ∷ handled)) in
      record {
        legal = one.legal;
        may_act = one.may_act;
        alive = λ r.
            absurd (never_more (view (process s') (added ++ h)).handled handled posted.message (one.alive r).appends (two.alive r).appends
            (one.alive r).handles.handled (two.alive r).handles.handled);
      }

  running : (added h : History) → is_stopped h ≡ false → Line → Each added h → WroteAll stamped s handled done lines (Ok tt) h
      → WroteAll stamped s' handled chunks lines' final (added ++ h)
  running added h e line each p =
      let q = p.alive e in
      let one = each (map (with_appends q.appends) handled, posted_on handled c q.appends posted)
      (record { legal = p.legal; may_act = p.may_act; alive = λ r. q.handles }) in
      told_by (added ++ h) (λ put. record {
        appends = q.appends ++ put.appends;
        handles = subst (λ ms. Handles s' ms (added ++ h)) (appends_join handled q.appends put.appends) put.handles;
        first = subst (λ cs. TellFirst cs (q.appends ++ put.appends)) (sym whole)
            (each_then done (c ∷ rest) q.appends put.appends q.told.each (answered_first c rest result put.appends put.answer));
        told = line q.appends put.appends q.told put.answer;
      }) one

  -- behind the chunks that were put before
  pub put_step : {now new : Option History} → Line → PutsOne now new s s' c result
      → Adds now new (Leads (As stamped (process s)) (WroteAll stamped s handled done lines (Ok tt)) (WroteAll stamped s' handled chunks lines' final))
  put_step line told =
      leads_family (λ (i : Takings). Ready stamped s i.0) (λ (i : Takings). Wrote stamped s' i.0 c result) (WroteAll stamped s handled done lines (Ok tt))
      (WroteAll stamped s' handled chunks lines' final) (handled, posted) (λ i. told stamped i.0 i.1)
      (λ added h each p. by added h each p (is_stopped h) refl)
    where
      by : (added h : History) → Each added h → WroteAll stamped s handled done lines (Ok tt) h → (b : Bool) → is_stopped h ≡ b
          → WroteAll stamped s' handled chunks lines' final (added ++ h)
      by added h each p true e = stopped added h e each p
      by added h each p false e = running added h e line each p
