use Rattle.std.proofs.Common.{◌≡◌, ◌∙◌, ◌∷◌, ◌++◌, [], List, ℕ, false, Result, Ok, Err, inr, refl, ap, sym, rules}
use Rattle.std.specs.Prelude.{OnOk}
use Rattle.chk_site_sockets.specs.Sends.{is_unanswered, with_most, IsSent}
use Rattle.chk_site_sockets.proofs.sends.Sends.send.Goals as goal

-- a stream that was kept is that of the message
kept_sent :
    {T E X : Type 0} (r : Result T E) (old mid new : List X) (number : X → ℕ) (message : ℕ)
    (bytes : List ℕ) (sent : X)
    → is_unanswered bytes ≡ false → mid ≡ old → number sent ≡ message
    → OnOk r (new ≡ with_most (mid ++ sent ∷ []))
    → OnOk r (IsSent old new number message bytes)
kept_sent (Ok value) old mid new number message bytes sent asked same named put =
    inr (
      asked,
      record { sent = sent; of_message = named; left = put ∙ ap (λ l. with_most (l ++ sent ∷ [])) same },
    )
kept_sent (Err error) old mid new number message bytes sent asked same named put = put

pub returns-clause-sent : goal.returns-clause-sent
returns-clause-sent g c =
    kept_sent c.keep-2.result c.args.self.now.open.items c.stream_to.new.self.open.items
    c.keep-2.new.self.open.items (λ sent. sent.message) c.args.message c.args.bytes.now
    _ (sym c.is_unanswered.ensures ∙ c.if-is_unanswered.false)
    (search rules) refl c.keep-2.ensures.kept
