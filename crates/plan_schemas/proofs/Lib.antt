mod Farther
mod RankNames
