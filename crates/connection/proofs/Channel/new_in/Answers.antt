-- `Channel::new_in` meets its contract: the test, and then the channel of a valid number. Assumes nothing.
use Rattle.connection.proofs.Versions.{held, not_held, tested}
use Rattle.connection.proofs.Channel.new_in.Goals as goal

pub returns-then-is_channel_to : goal.returns-then-is_channel_to
returns-then-is_channel_to c =
    let args = c.args in
    held _ _ (tested args.version args.value c.last_numbered.ensures c.is_channel_to.ensures) c.if-is_channel_to.true c.named.ensures

pub returns : goal.returns
returns c =
    let args = c.args in
    not_held _ _ (tested args.version args.value c.last_numbered.ensures c.is_channel_to.ensures) c.if-is_channel_to.false
