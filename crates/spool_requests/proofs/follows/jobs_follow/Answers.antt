use Rattle.spool_requests.proofs.Bridge.{abort_follows, control_follows, end_follows, file_follows, open_follows, page_follows, put_follows}
use Rattle.spool_requests.proofs.follows.jobs_follow.Goals as goal

pub returns-clause-open : goal.returns-clause-open
returns-clause-open c = open_follows

pub returns-clause-file : goal.returns-clause-file
returns-clause-file c = file_follows

pub returns-clause-page : goal.returns-clause-page
returns-clause-page c = page_follows

pub returns-clause-put : goal.returns-clause-put
returns-clause-put c = put_follows

pub returns-clause-end : goal.returns-clause-end
returns-clause-end c = end_follows

pub returns-clause-control : goal.returns-clause-control
returns-clause-control c = control_follows

pub returns-clause-abort : goal.returns-clause-abort
returns-clause-abort c = abort_follows
