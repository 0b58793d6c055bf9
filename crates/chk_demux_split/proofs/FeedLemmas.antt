-- What feeds give is the split of all that was fed.
use Rattle.std.proofs.Common.{◌≡◌, ℕ, Bool, true, false, List, [], ◌∷◌, ◌++◌, ap, sym, ◌∙◌, refl, append_assoc, append-nil, if◌then◌else◌}
use Rattle.chk_bytes.specs.Words.{joined}
use Rattle.chk_world.specs.Splits.{lines_from}
use Rattle.chk_demux_split.specs.Splitting.{Splitting, fresh, record_of, records_ahead, records_after, pieces_of}
use Rattle.chk_demux_split.specs.Laws.{Feed, AreFeeds, fed, given, behind, IsWholeSplit}

-- of more bytes behind all that was fed, the records are those that were given, and the others
all_ahead : (s : Splitting) (feeds : List Feed) → AreFeeds s feeds → (more : List ℕ)
    → records_ahead s (fed feeds ++ more) ≡ given feeds ++ records_ahead (behind s feeds) more
all_ahead s [] are more = refl
all_ahead s (f ∷ feeds) (one, others) more =
    ap (records_ahead s) (append_assoc f.bytes (fed feeds) more)
    ∙ one.ahead (fed feeds ++ more)
    ∙ ap (λ l. record_of f.after.given ++ l) (all_ahead f.after feeds others more)
    ∙ sym (append_assoc (record_of f.after.given) (given feeds)
    (records_ahead (behind f.after feeds) more))

-- no bytes complete no record
pub none_ahead : (s : Splitting) → records_ahead s [] ≡ []
none_ahead s = by s.by_stamps s.begun
  where
    by : (t : Bool) (begun : List ℕ)
        → (if t then records_after begun (lines_from s.line []) else lines_from s.line []) ≡ []
    by true [] = refl
    by true (b ∷ begun) = refl
    by false begun = refl

pub joined-append : (a b : List (List ℕ)) → joined (a ++ b) ≡ joined a ++ joined b
joined-append [] b = refl
joined-append (x ∷ a) b =
    ap (λ l. x ++ l) (joined-append a b) ∙ sym (append_assoc x (joined a) (joined b))

pub joined-record : (r : List ℕ) → joined (record_of r) ≡ r
joined-record [] = refl
joined-record (b ∷ r) = append-nil (b ∷ r)

-- no byte is lost
all_kept : (s : Splitting) (feeds : List Feed) → AreFeeds s feeds
    → (s.begun ++ s.line) ++ fed feeds
    ≡ joined (given feeds) ++ ((behind s feeds).begun ++ (behind s feeds).line)
all_kept s [] are = append-nil (s.begun ++ s.line)
all_kept s (f ∷ feeds) (one, others) =
    let t = f.after in
    let e = behind t feeds in
    sym (append_assoc (s.begun ++ s.line) f.bytes (fed feeds))
    ∙ ap (λ l. l ++ fed feeds) one.kept
    ∙ ap (λ l. l ++ fed feeds) (append_assoc t.given t.begun t.line)
    ∙ append_assoc t.given (t.begun ++ t.line) (fed feeds)
    ∙ ap (λ l. t.given ++ l) (all_kept t feeds others)
    ∙ sym (append_assoc t.given (joined (given feeds)) (e.begun ++ e.line))
    ∙ ap (λ l. (l ++ joined (given feeds)) ++ (e.begun ++ e.line)) (sym (joined-record t.given))
    ∙ ap (λ l. l ++ (e.begun ++ e.line))
    (sym (joined-append (record_of t.given) (given feeds)))

fresh_ahead : (t : Bool) (bytes : List ℕ) → records_ahead (fresh t) bytes ≡ pieces_of t bytes
fresh_ahead true bytes = refl
fresh_ahead false bytes = refl

pub feeds_split : (by_stamps : Bool) (feeds : List Feed) → AreFeeds (fresh by_stamps) feeds
    → IsWholeSplit by_stamps feeds
feeds_split t feeds are =
    let e = behind (fresh t) feeds in record {
      records =
          sym (append-nil (given feeds))
          ∙ ap (λ l. given feeds ++ l) (sym (none_ahead e))
          ∙ sym (all_ahead (fresh t) feeds are [])
          ∙ ap (records_ahead (fresh t)) (append-nil (fed feeds))
          ∙ fresh_ahead t (fed feeds);
      rest =
          all_kept (fresh t) feeds are
          ∙ sym (append_assoc (joined (given feeds)) e.begun e.line);
    }
