mod ReplyDays
mod Splits
mod Targets
