-- The lists of a book, as they are read.
use Rattle.std.proofs.Common.{◌≡◌, ℕ, suc, ◌+◌, ◌-◌, ◌*◌, ◌≤◌, ◌<◌, Bool, true, false, List, [], ◌∷◌, ◌++◌, length, drop, map, Option, Some, None, refl, sym, ap, subst, ◌∙◌, append_assoc, arith, length-append}
use Rattle.std.specs.Prelude.{nat_lt, nat_eq, ◌||◌}
use Rattle.std.specs.List.{list_all, list_any}
use Rattle.std.proofs.lemmas.Bool.{and_parts, and_from, lt-ltb}
use Rattle.chk_bytes.specs.Laws.{AreBytes}
use Rattle.chk_bytes.specs.Numbers.{limit}
use Rattle.chk_bytes.specs.Words.{joined}
use Rattle.chk_chunk.specs.Keys.{Stream, stream_lt, stream_at, behind_stream}
use Rattle.chk_world.specs.Books.{Segment, End, segment_bytes, end_bytes, is_segment, segments_rise, is_end, ends_rise, begins_at_0}
use Rattle.chk_book.specs.declared.fields.BookFault.{BookFault}
use Rattle.chk_book.specs.declared.fields.BookFault.TheVariants.{Damaged, NoMemory}
use Rattle.chk_book.specs.Reading.{IsRefused}
use Rattle.chk_book.specs.Found.{IsEndAt}
use Rattle.chk_book.proofs.FieldFacts.{first_found, first_skip, first_only, segment_there, segment_fine}
use Rattle.chk_book.specs.Views.{last_stream, segment_view}
use Rattle.chk_book.specs.declared.lists.Segment.{Segment as SegmentStruct}
use Rattle.chk_book.specs.Damage.{segment_damage, end_damage, comes_behind, texts_place, segments_damage, segments_there, ends_damage, ends_place, is_taken}

abbrev pub last_number : List Segment → ℕ
last_number [] = 0
last_number (g ∷ []) = g.number
last_number (g ∷ h ∷ gs) = last_number (h ∷ gs)

-- so many of the segments were read
pub record SegmentsSo (next count : ℕ) (bytes : List ℕ) (gs : List Segment) (done last at : ℕ) : Type 0 where
  pub done_is : done ≡ length gs
  pub damage : segments_damage count next 0 17 bytes ≡ segments_damage (count - done) next last at bytes
  pub place : at ≡ 17 + 16 * done
  pub within : at ≤ length bytes
  pub stands : drop 17 bytes ≡ joined (map segment_bytes gs) ++ drop at bytes
  pub sound : list_all (is_segment next) gs ≡ true
  pub rise : segments_rise gs ≡ true
  pub last_is : last ≡ last_number gs
  pub are : segments_there count 17 bytes ≡ gs ++ segments_there (count - done) at bytes

-- so many of the streams were read
pub record EndsSo (starts : Bool) (count from : ℕ) (bytes : List ℕ) (es : List End) (done at : ℕ) : Type 0 where
  pub done_is : done ≡ length es
  pub damage : ends_damage count starts None from bytes ≡ ends_damage (count - done) starts (last_stream es) at bytes
  pub place : ends_place count starts from bytes ≡ ends_place (count - done) starts at bytes
  pub within : at ≤ length bytes
  pub stands : drop from bytes ≡ joined (map (end_bytes starts) es) ++ drop at bytes
  pub sound : list_all is_end es ≡ true
  pub rise : ends_rise es ≡ true
  pub zero_starts : starts ≡ false → list_all begins_at_0 es ≡ true

-- ---- lists that grow at their end

joined_more : {A : Type 0} (f : A → List ℕ) (xs : List A) (x : A) (rest : List ℕ) → joined (map f (xs ++ x ∷ [])) ++ rest ≡ joined (map f xs) ++ (f x ++ rest)
joined_more f [] x rest = append_assoc (f x) [] rest
joined_more f (y ∷ ys) x rest =
    append_assoc (f y) (joined (map f (ys ++ x ∷ []))) rest
    ∙ (ap (λ t. f y ++ t) (joined_more f ys x rest) ∙ sym (append_assoc (f y) (joined (map f ys)) (f x ++ rest)))

all_more : {A : Type 0} (p : A → Bool) (xs : List A) (x : A) → list_all p xs ≡ true → p x ≡ true → list_all p (xs ++ x ∷ []) ≡ true
all_more p [] x all one = and_from _ _ one refl
all_more p (y ∷ ys) x all one =
    let both = and_parts (p y) (list_all p ys) all in
    and_from _ _ both.0 (all_more p ys x both.1 one)

rise_more : (gs : List Segment) (g : Segment) → segments_rise gs ≡ true → last_number gs < g.number → segments_rise (gs ++ g ∷ []) ≡ true
rise_more [] g rise past = refl
rise_more (h ∷ []) g rise past = and_from _ _ (lt-ltb h.number g.number past) refl
rise_more (h ∷ k ∷ gs) g rise past =
    let both = and_parts (nat_lt h.number k.number) (segments_rise (k ∷ gs)) rise in
    and_from _ _ both.0 (rise_more (k ∷ gs) g both.1 past)

last_more : (gs : List Segment) (g : Segment) → g.number ≡ last_number (gs ++ g ∷ [])
last_more [] g = refl
last_more (h ∷ []) g = refl
last_more (h ∷ k ∷ gs) g = last_more (k ∷ gs) g

ends_more : (es : List End) (e : End) → ends_rise es ≡ true → comes_behind (last_stream es) e.stream ≡ true → ends_rise (es ++ e ∷ []) ≡ true
ends_more [] e rise comes = refl
ends_more (f ∷ []) e rise comes = and_from _ _ comes refl
ends_more (f ∷ h ∷ es) e rise comes =
    let both = and_parts (stream_lt f.stream h.stream) (ends_rise (h ∷ es)) rise in
    and_from _ _ both.0 (ends_more (h ∷ es) e both.1 comes)

pub last_end : (es : List End) (e : End) → last_stream (es ++ e ∷ []) ≡ Some e.stream
last_end [] e = refl
last_end (f ∷ []) e = refl
last_end (f ∷ h ∷ es) e = last_end (h ∷ es) e

-- ---- segments

segments_next : (left next last at : ℕ) (bytes : List ℕ) → segment_damage next last at bytes ≡ None
    → segments_damage (suc left) next last at bytes ≡ segments_damage left next (segment_there at bytes).number (at + 16) bytes
segments_next left next last at bytes fine = first_skip _ _ fine ∙ first_only _

pub segments_step : (next count : ℕ) (bytes : List ℕ) (gs : List Segment) (done last at : ℕ) → SegmentsSo next count bytes gs done last at → AreBytes bytes
    → next < limit → done < count → segment_damage next last at bytes ≡ None
    → SegmentsSo next count bytes (gs ++ segment_there at bytes ∷ []) (done + 1) (segment_there at bytes).number (at + 16)
segments_step next count bytes gs done last at s are small more fine =
    let g = segment_there at bytes in
    let f = segment_fine next last at bytes are small fine in
    let less : count - done ≡ suc (count - (done + 1)) = omega arith in
    record {
      done_is = omega (arith, s.done_is, length-append gs (g ∷ []));
      damage = s.damage ∙ (ap (λ n. segments_damage n next last at bytes) less ∙ segments_next (count - (done + 1)) next last at bytes fine);
      place = omega (arith, s.place);
      within = f.within;
      stands = s.stands ∙ (ap (λ t. joined (map segment_bytes gs) ++ t) f.stands ∙ sym (joined_more segment_bytes gs g (drop (at + 16) bytes)));
      sound = all_more (is_segment next) gs g s.sound f.sound;
      rise = rise_more gs g s.rise (subst (λ n. n < g.number) s.last_is f.past);
      last_is = last_more gs g;
      are = s.are ∙ (ap (λ n. gs ++ segments_there n at bytes) less ∙ sym (append_assoc gs (g ∷ []) (segments_there (count - (done + 1)) (at + 16) bytes)));
    }

-- what is wrong from here on is what is wrong
pub segments_wrong : (next count : ℕ) (bytes : List ℕ) (gs : List Segment) (done last at place : ℕ) → SegmentsSo next count bytes gs done last at
    → done < count → segment_damage next last at bytes ≡ Some place → segments_damage count next 0 17 bytes ≡ Some place
segments_wrong next count bytes gs done last at place s more wrong =
    let less : count - done ≡ suc (count - (done + 1)) = omega arith in
    s.damage ∙ (ap (λ n. segments_damage n next last at bytes) less ∙ first_found _ _ place wrong)

-- ---- streams

ends_next : (left : ℕ) (starts : Bool) (last : Option Stream) (at : ℕ) (bytes : List ℕ) → end_damage starts last at bytes ≡ None
    → ends_damage (suc left) starts last at bytes
    ≡ ends_damage left starts (Some (stream_at (texts_place starts at) bytes)) (behind_stream (texts_place starts at) bytes) bytes
ends_next left starts last at bytes fine = first_skip _ _ fine ∙ first_only _

pub ends_step : (starts : Bool) (count from : ℕ) (bytes : List ℕ) (es : List End) (done at : ℕ) (e : End) (behind : ℕ) → EndsSo starts count from bytes es done at
    → done < count → IsEndAt starts (last_stream es) at bytes e behind → EndsSo starts count from bytes (es ++ e ∷ []) (done + 1) behind
ends_step starts count from bytes es done at e behind s more h =
    let less : count - done ≡ suc (count - (done + 1)) = omega arith in
    let left = count - (done + 1) in
    record {
      done_is = omega (arith, s.done_is, length-append es (e ∷ []));
      damage = s.damage ∙ (ap (λ n. ends_damage n starts (last_stream es) at bytes) less
          ∙ (ends_next left starts (last_stream es) at bytes h.fine
          ∙ (ap (λ k. ends_damage left starts (Some (stream_at (texts_place starts at) bytes)) k bytes) (sym h.place)
          ∙ ap (λ l. ends_damage left starts l behind bytes) (ap Some (sym h.is) ∙ sym (last_end es e)))));
      place = s.place ∙ (ap (λ n. ends_place n starts at bytes) less ∙ ap (λ k. ends_place left starts k bytes) (sym h.place));
      within = h.within;
      stands = s.stands ∙ (ap (λ t. joined (map (end_bytes starts) es) ++ t) h.stands ∙ sym (joined_more (end_bytes starts) es e (drop behind bytes)));
      sound = all_more is_end es e s.sound h.sound;
      rise = ends_more es e s.rise h.comes;
      zero_starts = λ f. all_more begins_at_0 es e (s.zero_starts f) (h.zero_start f);
    }

pub ends_wrong : (starts : Bool) (count from : ℕ) (bytes : List ℕ) (es : List End) (done at place : ℕ) → EndsSo starts count from bytes es done at
    → done < count → end_damage starts (last_stream es) at bytes ≡ Some place → ends_damage count starts None from bytes ≡ Some place
ends_wrong starts count from bytes es done at place s more wrong =
    let less : count - done ≡ suc (count - (done + 1)) = omega arith in
    s.damage ∙ (ap (λ n. ends_damage n starts (last_stream es) at bytes) less ∙ first_found _ _ place wrong)

-- ---- what the loops have at hand

map_push : {X Y : Type 0} (f : X → Y) (xs : List X) (x : X) → map f (xs ++ x ∷ []) ≡ map f xs ++ f x ∷ []
map_push f [] x = refl
map_push f (y ∷ ys) x = ap (λ t. f y ∷ t) (map_push f ys x)

pub more_is : {X Y : Type 0} (f : X → Y) (old new : List X) (x : X) (y : Y) → new ≡ old ++ x ∷ [] → f x ≡ y → map f new ≡ map f old ++ y ∷ []
more_is f old new x y more is = ap (map f) more ∙ (map_push f old x ∙ ap (λ z. map f old ++ z ∷ []) is)

pub refused_on : (d e : Option ℕ) (fault : BookFault) → ((place : ℕ) → d ≡ Some place → e ≡ Some place) → IsRefused d fault → IsRefused e fault
refused_on d e (Damaged at) on h = on at h
refused_on d e NoMemory on h = tt

-- one of the structs has this number
pub taken_so : (number : ℕ) (gs : List SegmentStruct) → list_any (λ g. nat_eq g.number number) gs ≡ is_taken number (map segment_view gs)
taken_so number [] = refl
taken_so number (g ∷ gs) = ap (λ b. nat_eq g.number number || b) (taken_so number gs)
