use Rattle.dnp_link_frame.proofs.FrameLaws.{one_header, one_user_data}
use Rattle.dnp_link_frame.proofs.laws.one_header_and_user_data.Goals as goal

pub returns-clause-header : goal.returns-clause-header
returns-clause-header c = one_header

pub returns-clause-user : goal.returns-clause-user
returns-clause-user c = one_user_data
