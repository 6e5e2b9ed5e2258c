use Rattle.vectors.proofs.UserData.{user_of-is}
use Rattle.vectors.proofs.table.user_data_of_frames.Goals as goal

pub returns : goal.returns
returns c = user_of-is
