mod Parts
mod Chaining
