use Rattle.mv_host.proofs.threads.serve.Goals as goal

pub returns : goal.returns
returns g c =
    let s = c.serve_within.ensures.served in
    record { legal = s.legal; done = s.did; orders = s.orders; files = s.found; ended = s.ended; whole = s.whole }
