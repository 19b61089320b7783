pub mod ToldMovePromise
