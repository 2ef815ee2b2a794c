mod TwoPasses
