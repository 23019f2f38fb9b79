use Rattle.std.proofs.Common.{rules}
use Rattle.mv_audit.specs.Audit.{IsJudged, MayShow, following_of}
use Rattle.mv_history.specs.World.{is_asked}
use Rattle.mv_audit.proofs.JudgementLaws.{shown_in}
use Rattle.mv_audit.proofs.auditing.shows.Goals as goal

pub returns-in_ok-judgement-in-Some-clause-shown : goal.returns-in_ok-judgement-in-Some-clause-shown
returns-in_ok-judgement-in-Some-clause-shown g c =
    let b = g.V.Version.behaviour in
    let a = c.args.audit.now in
    let f = c.in-Some.follower in
    let judged : IsJudged b (is_asked a.status) (following_of b f) c.in_ok-judgement-in-Some.judgement = search rules in
    let may : MayShow f.basis a.status c.args.cause.now = search rules in
    let e = shown_in b a f c.in-Some.is c.args.cause.now c.in_ok-judgement-in-Some.judgement judged may in
    let s = c.is_found.ensures in
    ((λ h. e.0 (s.0 h)), (λ h. s.1 (e.1 h)))
