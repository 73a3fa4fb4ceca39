-- The rank of a choice (document 02, Item 13): decline below online below offline.
-- Assumes nothing.
use Rattle.std.specs.Prelude.{ℕ, ◌<◌}
use Rattle.analysis.specs.declared.choice.Choice.{Choice}
use Rattle.analysis.specs.declared.choice.Choice.TheVariants.{Decline, Online, Offline}

-- decline 0, online 1, offline 2
abbrev pub choice_rank : Choice → ℕ
choice_rank Decline = 0
choice_rank Online = 1
choice_rank Offline = 2

-- no two choices have the same rank; `choice_rank` promises it
pub record DeclineBelowOnlineBelowOffline : Type 0 where
  pub decline_online : choice_rank Decline < choice_rank Online
  pub online_offline : choice_rank Online < choice_rank Offline
