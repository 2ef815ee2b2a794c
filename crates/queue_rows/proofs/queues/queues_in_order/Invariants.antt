use Rattle.queue_rows.proofs.queues.queues_in_order.Given as goal

-- the ledger of the blank
abbrev pub ghosts-expect_queues : goal.ghosts-expect_queues
ghosts-expect_queues g a = record { name = a.blank.name; parts = a.blank.parts }
