-- Lists of places that rise.
use Rattle.std.proofs.Common.{Bool, true, false, cond, List, [], ◌∷◌, ◌++◌}
use Rattle.std.specs.Prelude.{filter}
use Rattle.chk_chunk.specs.Keys.{Chunk}
use Rattle.chk_http_grammar.specs.Messages.{Ack}
use Rattle.chk_tee.specs.Messages.{Teed}
use Rattle.chk_tee_sender.specs.Offers.{teeds_of}
use Rattle.chk_tee_sender.specs.Sieves.{mark_of}
use Rattle.chk_tee_sender.specs.declared.sieve.Mark.{Mark}
use Rattle.chk_tee_laws.specs.Passed.{IsAbove, place, Each, RiseStrictly}

pub each_same : {P Q : Teed → Type 0} → ((t : Teed) → P t → Q t) → (ts : List Teed) → Each P ts
    → Each Q ts
each_same keeps [] all = tt
each_same keeps (t ∷ ts) all = (keeps t all.0, each_same keeps ts all.1)

pub each_any : {P : Teed → Type 0} → ((t : Teed) → P t) → (ts : List Teed) → Each P ts
each_any all [] = tt
each_any all (t ∷ ts) = (all t, each_any all ts)

pub each_join : (P : Teed → Type 0) (ts us : List Teed) → Each P ts → Each P us → Each P (ts ++ us)
each_join P [] us all more = more
each_join P (t ∷ ts) us all more = (all.0, each_join P ts us all.1 more)

pub each_filter : (P : Teed → Type 0) (p : Teed → Bool) (ts : List Teed) → Each P ts
    → Each P (filter p ts)
each_filter P p [] all = tt
each_filter P p (t ∷ ts) all = go (p t) (each_filter P p ts all.1)
  where
    go : (b : Bool) → Each P (filter p ts) → Each P (cond b (t ∷ filter p ts) (filter p ts))
    go true rest = (all.0, rest)
    go false rest = rest

-- all of the second list are above it
abbrev pub AllAbove : List Teed → Mark → Type 0
AllAbove us m = Each (λ u. IsAbove m (place u)) us

pub rise_join : (ts us : List Teed) → RiseStrictly ts → RiseStrictly us
    → Each (λ t. AllAbove us (place t)) ts → RiseStrictly (ts ++ us)
rise_join [] us rise more apart = more
rise_join (t ∷ ts) us rise more apart = (
  each_join (λ u. IsAbove (place t) (place u)) ts us rise.0 apart.0,
  rise_join ts us rise.1
      more apart.1,
)

pub rise_filter : (p : Teed → Bool) (ts : List Teed) → RiseStrictly ts → RiseStrictly (filter p ts)
rise_filter p [] rise = tt
rise_filter p (t ∷ ts) rise = go (p t) (rise_filter p ts rise.1)
  where
    go : (b : Bool) → RiseStrictly (filter p ts)
        → RiseStrictly (cond b (t ∷ filter p ts) (filter p ts))
    go true rest = (each_filter (λ u. IsAbove (place t) (place u)) p ts rise.0, rest)
    go false rest = rest

-- ---- lines of a reply

-- where the line says that its chunk stands
abbrev pub told_at : Ack → Mark
told_at a = mark_of a.stem a.number

-- it holds of each line's place
abbrev pub EachLine : (Mark → Type 0) → List Ack → Type 0
EachLine P [] = Unit {0}
EachLine P (a ∷ acks) = P (told_at a) × EachLine P acks

abbrev pub LinesRise : List Ack → Type 0
LinesRise [] = Unit {0}
LinesRise (a ∷ acks) = EachLine (IsAbove (told_at a)) acks × LinesRise acks

-- and so of each chunk with its line
pub lines_each : (P : Mark → Type 0) (chunks : List Chunk) (acks : List Ack) → EachLine P acks
    → Each (λ t. P (place t)) (teeds_of chunks acks)
lines_each P [] acks all = tt
lines_each P (c ∷ cs) [] all = tt
lines_each P (c ∷ cs) (a ∷ acks) all = (all.0, lines_each P cs acks all.1)

pub lines_rise : (chunks : List Chunk) (acks : List Ack) → LinesRise acks
    → RiseStrictly (teeds_of chunks acks)
lines_rise [] acks rise = tt
lines_rise (c ∷ cs) [] rise = tt
lines_rise (c ∷ cs) (a ∷ acks) rise =
    (lines_each (IsAbove (told_at a)) cs acks rise.0, lines_rise cs acks rise.1)
