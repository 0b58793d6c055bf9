use Rattle.chk_control.specs.Answers.{answer_text}
use Rattle.chk_control.proofs.AnswerLemmas.{appended_after, begins_after}
use Rattle.chk_control.proofs.answers.push_answer.Goals as goal

pub returns-in-Added-clause-ok : goal.returns-in-Added-clause-ok
unfolding answer_text
returns-in-Added-clause-ok c = rw c.in-Added.is c.push_named.ensures.ok

pub returns-in-Closed-clause-ok : goal.returns-in-Closed-clause-ok
unfolding answer_text
returns-in-Closed-clause-ok c = rw c.in-Closed.is c.push_text.ensures.ok

pub returns-in-Help-clause-ok : goal.returns-in-Help-clause-ok
unfolding answer_text
returns-in-Help-clause-ok c = rw c.in-Help.is c.push_text-in-Help.ensures.ok

pub returns-in-Listed-clause-ok : goal.returns-in-Listed-clause-ok
unfolding answer_text
returns-in-Listed-clause-ok c = rw c.in-Listed.is c.push_counted.ensures.ok

pub returns-in-Reloaded-clause-ok : goal.returns-in-Reloaded-clause-ok
unfolding answer_text
returns-in-Reloaded-clause-ok c = rw c.in-Reloaded.is c.push_counted-in-Reloaded.ensures.ok

pub returns-in-Stopped-clause-ok : goal.returns-in-Stopped-clause-ok
unfolding answer_text
returns-in-Stopped-clause-ok c = rw c.in-Stopped.is c.push_named-in-Stopped.ensures.ok

pub returns-in-StoppedAll-clause-ok : goal.returns-in-StoppedAll-clause-ok
unfolding answer_text
returns-in-StoppedAll-clause-ok c = rw c.in-StoppedAll.is c.push_counted-in-StoppedAll.ensures.ok

pub returns-in-Stopping-clause-ok : goal.returns-in-Stopping-clause-ok
unfolding answer_text
returns-in-Stopping-clause-ok c = rw c.in-Stopping.is c.push_named-in-Stopping.ensures.ok

pub returns-in-AgentStops-clause-ok : goal.returns-in-AgentStops-clause-ok
unfolding answer_text
returns-in-AgentStops-clause-ok c = rw c.in-AgentStops.is c.push_text-in-AgentStops.ensures.ok

pub returns-in-Bad-clause-ok : goal.returns-in-Bad-clause-ok
unfolding answer_text
returns-in-Bad-clause-ok c = rw c.in-Bad.is c.push_refusal.ensures.ok

pub returns-in_ok-push_words-in-Adaptor-clause-ok :
    goal.returns-in_ok-push_words-in-Adaptor-clause-ok
unfolding answer_text
returns-in_ok-push_words-in-Adaptor-clause-ok c =
    rw c.in-Adaptor.is
    (appended_after _ _ _ _ _ _ c.in_ok-push_words-in-Adaptor.ensures.ok c.push_progress.ensures.ok)

pub returns-in_ok-push_words-in-Adaptor-clause-err :
    goal.returns-in_ok-push_words-in-Adaptor-clause-err
returns-in_ok-push_words-in-Adaptor-clause-err c =
    begins_after _ _ _ _ _ c.in_ok-push_words-in-Adaptor.ensures.ok c.push_progress.ensures.err
