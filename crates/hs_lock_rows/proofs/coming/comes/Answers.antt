use Rattle.hs_lock_rows.proofs.coming.comes.Goals as goal

pub returns-in-KeptIn : goal.returns-in-KeptIn
returns-in-KeptIn c names slots assigned facts shows known i l =
    rw c.in-KeptIn.is (c.kept_in_comes.ensures names slots assigned facts shows known i l)

pub returns-in-Locked : goal.returns-in-Locked
returns-in-Locked c names slots assigned facts shows known i l =
    rw c.in-Locked.is (c.locked_comes.ensures names slots assigned facts shows known i l)

pub returns-in-Live : goal.returns-in-Live
returns-in-Live c names slots assigned facts shows known i l =
    rw c.in-Live.is (c.live_comes.ensures names slots assigned facts shows known i l)

pub returns-in-Apart : goal.returns-in-Apart
returns-in-Apart c names slots assigned facts shows known i l =
    rw c.in-Apart.is (c.apart_comes.ensures c.args.point.plan names slots assigned c.args.point.low.now c.args.point.at facts
    (rw c.in-Apart.is at c.requires.there) c.requires.point.fits.names known i l)

pub returns-in-KeptAt : goal.returns-in-KeptAt
returns-in-KeptAt c names slots assigned facts shows known i l =
    rw c.in-KeptAt.is (c.kept_at_comes.ensures names slots assigned facts shows known i l)

pub returns-in-NewAt : goal.returns-in-NewAt
returns-in-NewAt c names slots assigned facts shows known i l =
    rw c.in-NewAt.is (c.new_comes.ensures names slots assigned facts shows i l)
