use Rattle.lock_rows.proofs.passes.expect_scripted.Given as goal

-- the run is named by what its room began with
abbrev pub ghosts-expect_scripts : goal.ghosts-expect_scripts
ghosts-expect_scripts g a = record { opening = g.M.Room.opening a.room }
